use Rattle.std.proofs.Common.{◌≡◌, ◌+◌, ◌-◌, ◌*◌, ◌≤◌, [], ◌∷◌, ◌++◌, length, refl, subst, sym, ap, ◌∙◌, arith}
use denote.RawPtr.{◌+ₚ◌}
use mathlib.Core.List.{append_assoc}
use Rattle.pile.specs.Records.{AllWithin, named, records_of, record_of}
use Rattle.pile.specs.declared.slot.Slot.{Slot}
use Rattle.pile.proofs.Lists.{within_grows, records-grow, record-last}
use Rattle.pile.proofs.Laid.{free_is, in_bytes}
use Rattle.pile.proofs.pile.Pile.push.Goals as goal

pub returns-then-not-fits : goal.returns-then-not-fits
returns-then-not-fits c = (omega (arith, c.free-free.ensures.free, c.if-not-fits.ensures), refl)

pub with_room-requires-clause-need : goal.with_room-requires-clause-need
with_room-requires-clause-need c =
    let p = c.self.inside in let laid = c.self.invariant in let same = ap (λ v. v.len) c.replace-bytes.ensures.value in
    let room : p.bytes.len + length c.args.key.now + length c.args.body.now + 24 * (p.slots.len + 1) ≤ p.words * 8 =
    omega (arith, free_is p laid _ c.self.view_is, c.free-free.ensures.free, c.if-not-fits.ensures) in
    (omega (arith, same, c.len-used.ensures), omega (arith, same, laid.least), omega (arith, room, c.len-used.ensures, laid.high, laid.words), omega (arith, laid.small, laid.words))

pub overflow_sub-at : goal.overflow_sub-at
overflow_sub-at c =
    let p = c.self.inside in let laid = c.self.invariant in
    omega (arith, free_is p laid _ c.self.view_is, c.free-free.ensures.free, c.if-not-fits.ensures, c.len-count.ensures)

pub put_slot-requires-clause-slots : goal.put_slot-requires-clause-slots
put_slot-requires-clause-slots c =
    let p = c.self.inside in let laid = c.self.invariant in let same = c.replace-slots.ensures.value in
    let there : (p.middle.words - 3 * p.slots.len) * 8 ≡ (p.words - 3 * (c.len-count.result + 1) + 3) * 8 =
    omega (arith, free_is p laid _ c.self.view_is, c.free-free.ensures.free, c.if-not-fits.ensures, c.len-count.ensures, laid.words) in
    let base = sym c.with_room.ensures.middle.0 in (
      ap (λ v. v.len) same ∙ laid.high ∙ sym c.with_room.ensures.middle.2,
      ap (λ v. v.cap) same ∙ laid.tight ∙ sym (ap (λ v. v.len) same),
      λ some. ap (λ v. v.ptr) same ∙ laid.back (omega (arith, some, ap (λ v. v.len) same)) ∙ (λ i. base i +ₚ there i),
    )

pub put_slot-requires-clause-more : goal.put_slot-requires-clause-more
put_slot-requires-clause-more c =
    let p = c.self.inside in let laid = c.self.invariant in
    let room : p.bytes.len + length c.args.key.now + length c.args.body.now + 24 * (p.slots.len + 1) ≤ p.words * 8 =
    omega (arith, free_is p laid _ c.self.view_is, c.free-free.ensures.free, c.if-not-fits.ensures) in (
      omega (arith, c.len-count.ensures, laid.high, c.with_room.ensures.middle.2),
      omega (arith, room, c.len-count.ensures, laid.words, c.with_room.ensures.middle.1),
      omega (arith, room, c.len-count.ensures, c.len-used.ensures, c.with_room.ensures.low.2),
    )

pub invariant_of-self : goal.invariant_of-self
invariant_of-self c =
    let p = c.self.inside in let laid = c.self.invariant in let first = c.append.ensures.in_place in let second = c.append-2.ensures.in_place in
    let wide = c.with_room.ensures in let put = c.put_slot.ensures in let same = c.replace-slots.ensures.value in let was = c.replace-bytes.ensures.value in
    let room : p.bytes.len + length c.args.key.now + length c.args.body.now + 24 * (p.slots.len + 1) ≤ p.words * 8 =
    omega (arith, free_is p laid _ c.self.view_is, c.free-free.ensures.free, c.if-not-fits.ensures) in
    let old : c.with_room.result.len ≡ p.bytes.len = wide.bytes.1 ∙ ap (λ v. v.len) was in
    let cap : c.append-2.new.bytes.cap ≡ c.with_room.result.cap = second.1 ∙ first.1 in
    let low = put.middle.2 in let words = put.middle.1 ∙ wide.middle.1 in let base = put.middle.0 ∙ wide.middle.0 in
    let there : (p.words - 3 * (c.len-count.result + 1)) * 8 ≡ (c.put_slot.new.middle.words - 3 * c.put_slot.result.len) * 8 =
    omega (arith, words, put.slots.1, laid.words) in
    let now : c.append-2.new.bytes.len ≡ p.bytes.len + length c.args.key.now + length c.args.body.now = omega (arith, second.0, first.0, old) in
    record {
      cap = cap ∙ wide.low.0 ∙ ap (λ k. k * 8) (sym low);
      front = λ some. second.2 ∙ first.2 ∙ wide.low.3 (omega (arith, some, cap)) ∙ sym put.middle.0;
      high = put.slots.1 ∙ sym put.middle.3;
      tight = put.slots.2 ∙ sym put.slots.1;
      back = λ some. put.slots.3 ∙ (λ i. sym put.middle.0 i +ₚ there i);
      home = (base ∙ laid.home.0, words ∙ laid.home.1);
      words = laid.words ∙ sym words;
      small = laid.small;
      fits = omega (arith, room, low, put.slots.1, c.len-count.ensures, c.len-used.ensures, wide.low.2);
      least = omega (arith, low, wide.low.2, now, c.len-used.ensures);
      within = subst (AllWithin c.append-2.new.bytes.len) (sym put.slots.0)
          (omega (arith, now, c.len-used.ensures), within_grows p.bytes.len c.append-2.new.bytes.len c.replace-slots.result.items (omega (arith, now)) (subst (λ v. AllWithin p.bytes.len v.items) (sym same) laid.within));
      names = ap named put.slots.0 ∙ omega (arith, now, laid.names, ap (λ v. named v.items) same);
    }

pub returns : goal.returns
returns c =
    let p = c.self.inside in let laid = c.self.invariant in let same = ap (λ v. v.items) c.replace-slots.ensures.value in
    let room : length c.args.key.now + length c.args.body.now + 24 ≤ c.free-free.result = c.if-not-fits.ensures in
    let key = c.args.key.now in let body = c.args.body.now in let bs = p.bytes.items in let ss = p.slots.items in
    let bytes : c.append-2.new.bytes.items ≡ (bs ++ key) ++ body =
    c.append-2.ensures.items ∙ ap (λ l. l ++ body) (c.append.ensures.items ∙ ap (λ l. l ++ key) (c.with_room.ensures.bytes.0 ∙ ap (λ v. v.items) c.replace-bytes.ensures.value)) in
    let along : (bs ++ key) ++ body ≡ bs ++ (key ++ body) = append_assoc bs key body in
    let first : records_of ((bs ++ key) ++ body) ss ≡ c.args.self.now.records =
    ap (λ l. records_of l ss) along ∙ records-grow bs (key ++ body) ss (in_bytes p laid) ∙ ap (λ v. v.records) c.self.view_is in
    let slot : Slot = record { at = c.len-used.result; key = length key; body = length body; seq = c.args.seq } in
    let last = record-last bs key body slot (c.len-used.ensures ∙ p.bytes.ok.0) refl refl in (
      omega (arith, room, c.free-free.ensures.free),
      (λ i. records_of (bytes i) (c.put_slot.ensures.slots.0 i)) ∙ (λ i. records_of ((bs ++ key) ++ body) (same i) ++ record_of ((bs ++ key) ++ body) slot ∷ []) ∙ (λ i. first i ++ last i ∷ []),
      ap (λ v. v.size) c.self.view_is,
    )

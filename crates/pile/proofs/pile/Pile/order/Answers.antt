use Rattle.std.specs.Prelude.{◌==◌}
use Rattle.std.proofs.Common.{◌≡◌, ◌∙◌, sym, ap, subst, length}
use Rattle.std.specs.List.Sorted.{IsPermutation, IsSortedBy}
use Rattle.std.specs.Vec.{with_items}
use Rattle.std.proofs.lemmas.List.{with_items_is}
use Rattle.pile.specs.Records.{AllWithin, named, records_of, record_lt, slot_lt}
use Rattle.pile.proofs.Only.{only_order}
use Rattle.pile.proofs.Orders.{tied, seq_flips, record_lt-IsStrictWeakOrder}
use Rattle.pile.proofs.Lists.{records-permuted, records-sorted, named-permuted, within-permuted}
use Rattle.pile.proofs.pile.Pile.order.Goals as goal

pub invariant_of-self : goal.invariant_of-self
invariant_of-self c =
    let p = c.self.inside in let laid = c.self.invariant in let ns = c.sort.new.slots in
    let was = c.as_mut_slice-slots.ensures.value in
    let is : (with_items p.slots ns).items ≡ ns = with_items_is p.slots ns (c.sort.ensures.len ∙ ap length was ∙ sym p.slots.ok.0) in
    let moved : IsPermutation p.slots.items ns = subst (λ l. IsPermutation l ns) was c.sort.ensures.permutation in
    record {
      cap = laid.cap;
      front = laid.front;
      high = laid.high;
      tight = laid.tight;
      back = laid.back;
      home = laid.home;
      words = laid.words;
      small = laid.small;
      fits = laid.fits;
      least = laid.least;
      within = subst (AllWithin p.bytes.len) (sym is) (within-permuted p.bytes.len p.slots.items ns moved laid.within);
      names = ap named is ∙ named-permuted p.slots.items ns moved ∙ laid.names;
    }

pub returns-clause-permutation : goal.returns-clause-permutation
returns-clause-permutation c =
    let p = c.self.inside in let ns = c.sort.new.slots in let was = c.as_mut_slice-slots.ensures.value in
    let is : (with_items p.slots ns).items ≡ ns = with_items_is p.slots ns (c.sort.ensures.len ∙ ap length was ∙ sym p.slots.ok.0) in
    let moved : IsPermutation p.slots.items ns = subst (λ l. IsPermutation l ns) was c.sort.ensures.permutation in
    subst (λ l. IsPermutation l (records_of p.bytes.items (with_items p.slots ns).items)) (ap (λ v. v.records) c.self.view_is)
    (subst (λ l. IsPermutation (records_of p.bytes.items p.slots.items) (records_of p.bytes.items l)) (sym is) (records-permuted p.bytes.items p.slots.items ns moved))

pub returns-clause-sorted : goal.returns-clause-sorted
returns-clause-sorted c =
    let p = c.self.inside in let ns = c.sort.new.slots in let was = c.as_mut_slice-slots.ensures.value in
    let is : (with_items p.slots ns).items ≡ ns = with_items_is p.slots ns (c.sort.ensures.len ∙ ap length was ∙ sym p.slots.ok.0) in
    let sorted : IsSortedBy (λ a b. slot_lt p.bytes.items b a) ns = subst (λ l. IsSortedBy (λ a b. slot_lt l b a) ns) c.as_slice-bytes.ensures.value c.sort.ensures.sorted in
    subst (λ l. IsSortedBy record_lt (records_of p.bytes.items l)) (sym is) (records-sorted p.bytes.items ns sorted)

pub returns-clause-only : goal.returns-clause-only
returns-clause-only c = λ differ ls moved sorted.
    only_order record_lt (λ a b. a.seq == b.seq) tied record_lt-IsStrictWeakOrder seq_flips _ ls _ differ moved sorted (returns-clause-permutation c) (returns-clause-sorted c)

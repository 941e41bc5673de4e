-- What the layout of a pile says of its free bytes.
use Rattle.std.proofs.Common.{◌≡◌, ℕ, ◌+◌, ◌-◌, ◌≤◌, ◌*◌, length, sym, ap, subst, ◌∙◌, arith}
use Rattle.pile.specs.Records.{Contents, counted_sum, free_of, AllWithin, record_at, record_of}
use Rattle.std.specs.Prelude.{slice_index_or, ◌<◌}
use Rattle.pile.specs.declared.slot.Slot.{Slot}
use Rattle.pile.specs.Layout.{IsLaid, contents}
use Rattle.pile.specs.declared.pile.Pile.TheInside.{Inside}
use Rattle.pile.proofs.Lists.{counted-records, length-records, records-at}

pub in_bytes : (p : Inside) → IsLaid p → AllWithin (length p.bytes.items) p.slots.items
in_bytes p laid = subst (λ n. AllWithin n p.slots.items) p.bytes.ok.0 laid.within

pub free_is : (p : Inside) → IsLaid p → (v : Contents) → contents p ≡ v → free_of v ≡ p.words * 8 - p.bytes.len - 24 * p.slots.len
free_is p laid v e = ap free_of (sym e) ∙ omega (arith, p.slots.ok.0, laid.names, counted-records p.bytes.items p.slots.items (in_bytes p laid))

pub count_is : (p : Inside) (v : Contents) → contents p ≡ v → length v.records ≡ p.slots.len
count_is p v e = ap (λ c. length c.records) (sym e) ∙ length-records p.bytes.items p.slots.items ∙ sym p.slots.ok.0

-- the record at i is that of the slot found there
pub found : (p : Inside) (v : Contents) → contents p ≡ v → (i n : ℕ) (s : Slot) → n ≡ p.slots.len → s ≡ slice_index_or p.slots.items (n - 1 - i) s → i < length v.records
    → record_at v.records i ≡ record_of p.bytes.items s
found p v e i n s count is lt =
    ap (λ c. record_at c.records i) (sym e) ∙ records-at p.bytes.items p.slots.items i s _ (omega (arith, lt, count_is p v e, p.slots.ok.0))
    ∙ ap (λ k. record_of p.bytes.items (slice_index_or p.slots.items (k - 1 - i) s)) (sym (count ∙ p.slots.ok.0)) ∙ ap (record_of p.bytes.items) (sym is)

-- the records count no more than the block has
pub counted_is : (p : Inside) → IsLaid p → (v : Contents) → contents p ≡ v → p.words * 8 - p.bytes.len - 24 * p.slots.len + counted_sum v.records ≡ v.size
counted_is p laid v e =
    let full : p.bytes.len + 24 * p.slots.len ≤ p.words * 8 = omega (arith, p.bytes.ok.1, laid.cap, laid.fits) in
    subst (λ c. p.words * 8 - p.bytes.len - 24 * p.slots.len + counted_sum c.records ≡ c.size) e (omega (arith, full, p.slots.ok.0, laid.names, counted-records p.bytes.items p.slots.items (in_bytes p laid)))

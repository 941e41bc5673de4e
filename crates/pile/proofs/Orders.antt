-- Records, and slots over bytes, are in a strict weak order, and records that tie have one number.
use Rattle.std.proofs.Common.{◌≡◌, ℕ, List, rules, Ordering, Less, Equal, Greater, true, false, refl, sym, ap, true≢false, arith}
use Rattle.std.specs.Prelude.{◌==◌}
use Rattle.std.specs.Cmp.{IsStrictWeakOrder, IsTotalOrder}
use Rattle.std.specs.Cmp.Rules.{comparing}
use Rattle.std.specs.Ordering.{nat_cmp, then_cmp, on, ordering_reverse, is_lt}
use Rattle.std.specs.Cmp.Lexicographic.{slice_cmp}
use Rattle.std.proofs.lemmas.Bool.Decides.{nat_tests}
use Rattle.std.proofs.lemmas.List.Sorted.{ranks_by}
use Rattle.std.proofs.lemmas.Map.Lookups.{exact_pairs, exact_bytes, exact_unsigned}
use Rattle.pile.specs.Records.{Record, record_lt, slot_lt, record_of}
use Rattle.pile.specs.declared.slot.Slot.{Slot}

abbrev pair_cmp : (List ℕ × ℕ) → (List ℕ × ℕ) → Ordering
pair_cmp = then_cmp (on (λ p. p.0) (slice_cmp nat_cmp)) (on (λ p. p.1) nat_cmp)

pair_total : IsTotalOrder pair_cmp
pair_total = search (comparing, rules)

pub slot_lt-IsStrictWeakOrder : (bytes : List ℕ) → IsStrictWeakOrder (slot_lt bytes)
unfolding record_lt
slot_lt-IsStrictWeakOrder bytes = ranks_by pair_total (λ (s : Slot). ((record_of bytes s).key, s.seq))

pub record_lt-IsStrictWeakOrder : IsStrictWeakOrder record_lt
unfolding record_lt
record_lt-IsStrictWeakOrder = ranks_by pair_total (λ (r : Record). (r.key, r.seq))

neither : (a b : Ordering) → a ≡ ordering_reverse b → is_lt a ≡ false → is_lt b ≡ false → a ≡ Equal
neither Less b e p q = absurd (true≢false p)
neither Equal b e p q = refl
neither Greater Less e p q = absurd (true≢false q)
neither Greater Equal e p q = e
neither Greater Greater e p q = absurd (true≢false (sym (ap is_lt e)))

-- where neither is less, the numbers are the same
pub tied : (a b : Record) → record_lt a b ≡ false → record_lt b a ≡ false → (a.seq == b.seq) ≡ true
unfolding record_lt
tied a b p q =
    let p' : List ℕ × ℕ = (a.key, a.seq) in let q' : List ℕ × ℕ = (b.key, b.seq) in
    let e : p' ≡ q' = exact_pairs (slice_cmp nat_cmp) nat_cmp exact_bytes exact_unsigned p' q' (neither (pair_cmp p' q') (pair_cmp q' p') (pair_total.antisymm p' q') p q) in
    let n : a.seq ≡ b.seq = ap (λ r. r.1) e in grind (arith, nat_tests)

pub seq_flips : (a b : Record) → (a.seq == b.seq) ≡ (b.seq == a.seq)
seq_flips a b = grind (arith, nat_tests)

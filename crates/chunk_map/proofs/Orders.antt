-- Steps in a total order, and where a search in it ends.
use Rattle.std.proofs.Common.{◌≡◌, ℕ, zero, suc, Bool, true, false, List, [], ◌∷◌, refl, ap, ◌∙◌, arith}
use Rattle.std.specs.Cmp.{IsTotalOrder}
use Rattle.std.specs.Ordering.{is_lt, is_le, is_eq, is_gt, ordering_reverse}
use Rattle.std.specs.List.Sorted.{IsPartitionPoint}
use Rattle.std.specs.declared.cmp.Ordering.{Ordering}
use Rattle.std.specs.declared.cmp.Ordering.TheVariants.{Less, Equal, Greater}
use Rattle.std.proofs.lemmas.Cmp.{upto}

le_gt : (o : Ordering) → is_le o ≡ true → is_gt o ≡ false
le_gt Less e = refl
le_gt Equal e = refl
le_gt Greater e = absurd cc

gt_le : (o : Ordering) → is_gt o ≡ false → is_le o ≡ true
gt_le Less e = refl
gt_le Equal e = refl
gt_le Greater e = absurd cc

turned_le : (o : Ordering) → is_lt o ≡ false → is_le (ordering_reverse o) ≡ true
turned_le Less e = absurd cc
turned_le Equal e = refl
turned_le Greater e = refl

turned_lt : (o : Ordering) → is_lt o ≡ true → is_le (ordering_reverse o) ≡ false
turned_lt Less e = refl
turned_lt Equal e = absurd cc
turned_lt Greater e = absurd cc

lt_is_le : (o : Ordering) → is_lt o ≡ true → is_le o ≡ true
lt_is_le Less e = refl
lt_is_le Equal e = absurd cc
lt_is_le Greater e = absurd cc

eq_is_le : (o : Ordering) → is_eq o ≡ true → is_le o ≡ true
eq_is_le Less e = absurd cc
eq_is_le Equal e = refl
eq_is_le Greater e = absurd cc

lt_not_eq : (o : Ordering) → is_lt o ≡ true → is_eq o ≡ false
lt_not_eq Less e = refl
lt_not_eq Equal e = absurd cc
lt_not_eq Greater e = absurd cc

turned_eq : (o : Ordering) → is_lt o ≡ true → is_eq (ordering_reverse o) ≡ false
turned_eq Less e = refl
turned_eq Equal e = absurd cc
turned_eq Greater e = absurd cc

turned_gt : (o : Ordering) → is_lt o ≡ false → is_eq o ≡ false → is_lt (ordering_reverse o) ≡ true
turned_gt Less e f = absurd cc
turned_gt Equal e f = absurd cc
turned_gt Greater e f = refl

module _ {K : Type 0} {R : K → K → Ordering} (o : IsTotalOrder R) where
  pub le_trans : (a b c : K) → is_le (R a b) ≡ true → is_le (R b c) ≡ true → is_le (R a c) ≡ true
  le_trans a b c e f = gt_le (R a c) (upto o a b c (le_gt (R a b) e) (le_gt (R b c) f))

  pub not_lt : (a b : K) → is_lt (R a b) ≡ false → is_le (R b a) ≡ true
  not_lt a b e = ap is_le (o.antisymm b a) ∙ turned_le (R a b) e

  pub lt_not_le : (a b : K) → is_lt (R a b) ≡ true → is_le (R b a) ≡ false
  lt_not_le a b e = ap is_le (o.antisymm b a) ∙ turned_lt (R a b) e

  pub lt_le : (a b : K) → is_lt (R a b) ≡ true → is_le (R a b) ≡ true
  lt_le a b e = lt_is_le (R a b) e

  pub eq_le : (a b : K) → is_eq (R a b) ≡ true → is_le (R a b) ≡ true
  eq_le a b e = eq_is_le (R a b) e

  pub lt_ne : (a b : K) → is_lt (R a b) ≡ true → is_eq (R a b) ≡ false
  lt_ne a b e = lt_not_eq (R a b) e

  pub gt_ne : (a b : K) → is_lt (R a b) ≡ true → is_eq (R b a) ≡ false
  gt_ne a b e = ap is_eq (o.antisymm b a) ∙ turned_eq (R a b) e

  pub is_above : (a b : K) → is_lt (R a b) ≡ false → is_eq (R a b) ≡ false → is_lt (R b a) ≡ true
  is_above a b e f = ap is_lt (o.antisymm b a) ∙ turned_gt (R a b) e f

  pub lt_trans : (a b c : K) → is_lt (R a b) ≡ true → is_le (R b c) ≡ true → is_lt (R a c) ≡ true
  lt_trans a b c e f =
      elim (is_lt (R a c)) as (λ t. is_lt (R a c) ≡ t → t ≡ true) [
        | true ↦ λ g. refl
        | false ↦ λ g. absurd (let h = le_trans b c a f (not_lt a c g) in let k = lt_not_le a b e in cc)
      ] refl

  pub trans_lt : (a b c : K) → is_le (R a b) ≡ true → is_lt (R b c) ≡ true → is_lt (R a c) ≡ true
  trans_lt a b c e f =
      elim (is_lt (R a c)) as (λ t. is_lt (R a c) ≡ t → t ≡ true) [
        | true ↦ λ g. refl
        | false ↦ λ g. absurd (let h = le_trans c a b (not_lt a c g) e in let k = lt_not_le b c f in cc)
      ] refl

-- the items up to a place pass, and those from it on don't
abbrev pub IsCut : {X : Type 0} → (X → Bool) → List X → ℕ → Type 0
IsCut p [] i = Unit {0}
IsCut p (x ∷ xs) zero = (p x ≡ false) × IsCut p xs zero
IsCut p (x ∷ xs) (suc i) = (p x ≡ true) × IsCut p xs i

module _ {X : Type 0} (p : X → Bool) where
  pub cut_from : (xs : List X) (i : ℕ) → IsPartitionPoint (λ y. p y ≡ true) (λ y. p y ≡ false) xs i → IsCut p xs i
  cut_from [] i h = tt
  cut_from (x ∷ xs) zero h = (h.1 0 x (omega arith) (omega arith), cut_from xs zero (λ k d low high. absurd (omega arith), λ k d low high. h.1 (suc k) d (omega arith) (omega arith)))
  cut_from (x ∷ xs) (suc i) h = (h.0 0 x (omega arith) (omega arith), cut_from xs i (λ k d low high. h.0 (suc k) d (omega arith) (omega arith), λ k d low high. h.1 (suc k) d (omega arith) (omega arith)))

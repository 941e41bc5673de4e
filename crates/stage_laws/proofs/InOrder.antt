-- Lists in order, said by neighbours and by all that come later.
use Rattle.std.proofs.Common.{◌≡◌, ℕ, zero, suc, ◌+◌, Bool, true, false, List, [], ◌∷◌, ◌++◌, get_or, cond, refl, sym, subst, ◌∙◌, arith}
use Rattle.std.specs.Cmp.{IsStrictWeakOrder}
use Rattle.std.specs.Prelude.{filter}
use Rattle.std.specs.List.Sorted.{IsSortedBy, IsPermutation}
use Rattle.std.proofs.lemmas.List.{append-nil}
use Rattle.std.proofs.lemmas.List.Elements.{recursion_from_All, filter-append}
use Rattle.std.proofs.lemmas.List.Sorted.{sorted_far, IsPermutation-middle}
use Rattle.merge_cursor.proofs.Ordered.{Low, Rising}

module _ {X : Type 0} (lt : X → X → Bool) (o : IsStrictWeakOrder lt) where
  pub sorted_from : (xs : List X) → Rising lt o xs → IsSortedBy lt xs
  sorted_from [] h k d low high = absurd (omega arith)
  sorted_from (x ∷ []) h k d low high = absurd (omega arith)
  sorted_from (x ∷ y ∷ ys) h zero d low high = h.0.0
  sorted_from (x ∷ y ∷ ys) h (suc k) d low high =
      let e : suc (k + 1) ≡ suc k + 1 = omega arith in
      subst (λ (j : ℕ). lt (get_or (x ∷ y ∷ ys) j d) (get_or (y ∷ ys) k d) ≡ false) e (sorted_from (y ∷ ys) h.1 k d (omega arith) (omega arith))

  low_from : (x : X) (xs : List X) → IsSortedBy lt (x ∷ xs) → Low lt o x xs
  low_from x xs h = recursion_from_All (λ y. lt y x ≡ false) xs (λ k d high. sorted_far lt o (x ∷ xs) h 0 (suc k) d (omega arith) (omega arith))

  pub rising_from : (xs : List X) → IsSortedBy lt xs → Rising lt o xs
  rising_from [] h = tt
  rising_from (x ∷ xs) h =
      (low_from x xs h, rising_from xs (λ k d low high. let e : suc k + 1 ≡ suc (k + 1) = omega arith in subst (λ (j : ℕ). lt (get_or (x ∷ xs) j d) (get_or xs k d) ≡ false) e (h (suc k) d (omega arith) (omega arith))))

-- where nothing behind x passes with it, x may as well stand last
pub turn_filter : {X : Type 0} (p : X → Bool) (x : X) (xs : List X) → (p x ≡ true → filter p xs ≡ []) → filter p (x ∷ xs) ≡ filter p (xs ++ x ∷ [])
turn_filter p x xs f =
    (elim (p x) as (λ b. p x ≡ b → cond b (x ∷ filter p xs) (filter p xs) ≡ filter p xs ++ cond b (x ∷ []) []) [
      | true ↦ λ e. rw (f e) refl
      | false ↦ λ e. sym (append-nil (filter p xs))
    ] refl) ∙ sym (filter-append p xs (x ∷ []))

pub swapped : {X : Type 0} (x y : X) (xs : List X) → IsPermutation (x ∷ y ∷ xs) (y ∷ x ∷ xs)
swapped x y xs = IsPermutation-middle (x ∷ []) y xs

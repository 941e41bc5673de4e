-- The whole by key is the stable rearrangement, and the only one.
use Rattle.std.proofs.Common.{◌≡◌, ℕ, zero, suc, ◌+◌, false, List, [], ◌∷◌, get_or, sym, subst, ◌∙◌, arith}
use Rattle.std.specs.List.Sorted.{IsSortedBy}
use Rattle.merge_cursor.specs.declared.item.Keyed.{Keyed}
use Rattle.merge_cursor.specs.Whole.{ordered_by, key_before, IsStableOrder, IsOnlyStableOrder}
use Rattle.merge_cursor.proofs.Ordered.{Rising, ordered_rising, ordered_filter, rising_same}
use Rattle.merge_cursor.proofs.Schedules.{key_order, rising_from}

sorted_from : (xs : List Keyed) → Rising key_before key_order xs → IsSortedBy key_before xs
sorted_from [] h k d low high = absurd (omega arith)
sorted_from (x ∷ []) h k d low high = absurd (omega arith)
sorted_from (x ∷ y ∷ ys) h zero d low high = h.0.0
sorted_from (x ∷ y ∷ ys) h (suc k) d low high =
    let e : suc (k + 1) ≡ suc k + 1 = omega arith in
    subst (λ (j : ℕ). key_before (get_or (x ∷ y ∷ ys) j d) (get_or (y ∷ ys) k d) ≡ false) e (sorted_from (y ∷ ys) h.1 k d (omega arith) (omega arith))

pub stable_order : IsStableOrder
stable_order xs = (sorted_from (ordered_by key_before xs) (ordered_rising key_before key_order xs), λ z. ordered_filter key_before key_order z xs)

pub only_stable_order : IsOnlyStableOrder
only_stable_order xs ys up same = rising_same key_before key_order ys (ordered_by key_before xs) (rising_from ys up) (ordered_rising key_before key_order xs) (λ z. same z ∙ sym (ordered_filter key_before key_order z xs))

-- The first of some parts.
use Rattle.std.proofs.Common.{◌≡◌, ◌≢◌, ℕ, Bool, true, false, List, [], ◌∷◌, length, refl, sym, ap, ◌∙◌}
use Rattle.std.specs.Prelude.{Option, Some, slice_index_or, if◌then◌else◌}
use Rattle.std.specs.declared.cmp.Ordering.{Ordering}
use Rattle.std.specs.declared.cmp.Ordering.TheVariants.{Less, Equal, Greater}
use Rattle.std.specs.Ordering.{is_lt, is_gt, ordering_reverse}
use Rattle.std.specs.Cmp.{IsStrictWeakOrder}
use Rattle.std.specs.List.{flat_map, IsFirstBest, best_of}
use Rattle.std.proofs.lemmas.List.MinMax.{ranks_by, IsStrictWeakOrder-flip, IsFirstBest-from_best_of}
use Rattle.std.proofs.lemmas.List.{get_or_default}
use Rattle.bson_value.specs.Tree.{Tree, leaf, null}
use Rattle.bson_value.specs.Order.{part_order}
use Rattle.bson_value.specs.Paths.{Steps, ends}
use Rattle.bson_value.specs.SortValue.{sort_parts, comes_before, first_from, first_part, sort_value}
use Rattle.bson_value.proofs.Preorder.{found_total}

greater : (o : Ordering) → is_gt (ordering_reverse o) ≡ is_lt o
greater Less = refl
greater Equal = refl
greater Greater = refl

rising : IsStrictWeakOrder (λ (x : Option Tree) (y : Option Tree). is_lt (part_order x y))
rising = ranks_by found_total (λ (x : Option Tree). x)

swapped : (x y : Option Tree) → is_gt (part_order x y) ≡ is_lt (part_order y x)
swapped x y = ap is_gt (found_total.antisymm x y) ∙ greater (part_order y x)

same_ranks : {X : Type 0} (f g : X → X → Bool) → ((x y : X) → f x y ≡ g x y) → IsStrictWeakOrder g → IsStrictWeakOrder f
same_ranks f g e o = record {
  one_way = λ x y h. e y x ∙ o.one_way x y (sym (e x y) ∙ h);
  chain = λ x y z h k. e x z ∙ o.chain x y z (sym (e x y) ∙ h) (sym (e y z) ∙ k);
}

ranks : (falling : Bool) → IsStrictWeakOrder (comes_before falling)
ranks true = same_ranks (comes_before true) (λ x y. is_lt (part_order y x)) swapped (IsStrictWeakOrder-flip (λ x y. is_lt (part_order x y)) rising)
ranks false = rising

best : (falling : Bool) (xs : List (Option Tree)) (x : Option Tree) → best_of (comes_before falling) x xs ≡ first_from falling x xs
best falling [] x = refl
best falling (y ∷ ys) x = best falling ys (if comes_before falling y x then y else x)

first_of_parts : (falling : Bool) (xs : List (Option Tree)) → xs ≢ []
    → (place : ℕ) × IsFirstBest (comes_before falling) xs (length xs) place × (slice_index_or xs place (Some (leaf null)) ≡ first_part falling xs)
first_of_parts falling [] some = absurd (some refl)
first_of_parts falling (x ∷ xs) some =
    let f = IsFirstBest-from_best_of (ranks falling) x xs in (f.0, f.1, get_or_default (x ∷ xs) f.0 (Some (leaf null)) x f.1.0 ∙ f.2 ∙ best falling xs x)

pub of_none : (falling : Bool) (path : Steps) (document : Tree) → flat_map sort_parts (ends path document) ≡ [] → sort_value falling path document ≡ Some (leaf null)
of_none falling path document e = ap (first_part falling) e

pub comes_first : (falling : Bool) (path : Steps) (document : Tree) → flat_map sort_parts (ends path document) ≢ []
    → (place : ℕ) × IsFirstBest (comes_before falling) (flat_map sort_parts (ends path document)) (length (flat_map sort_parts (ends path document))) place
    × (slice_index_or (flat_map sort_parts (ends path document)) place (Some (leaf null)) ≡ sort_value falling path document)
comes_first falling path document some = first_of_parts falling (flat_map sort_parts (ends path document)) some

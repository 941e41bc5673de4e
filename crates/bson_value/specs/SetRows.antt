-- The rows of sets (the manual, Set Expression Operators). A set is an array whose members count once and in no order:
-- what is given has them where they are first met.
use Rattle.std.specs.Prelude.{Bool, true, not, ◌&&◌, List, [], ◌∷◌, map, Option}
use Rattle.std.specs.List.{filter, list_any, list_all, flat_map}
use Rattle.std.specs.Ordering.{eq_by_cmp}
use Rattle.bson_value.specs.Tree.{Tree}
use Rattle.bson_value.specs.Order.{order}
use Rattle.bson_value.specs.declared.eval_code.EvalCode.TheVariants.{NotArray}
use Rattle.bson_value.specs.Operands.{Outcome, both, all, row, needed, array_in, wrong_count, gives_array, gives_flag}

-- members that are equal in the comparison order are one
abbrev pub same : Tree → Tree → Bool
same = eq_by_cmp order

abbrev pub has : List Tree → Tree → Bool
has ts t = list_any (same t) ts

-- each member once, where it first stands
abbrev pub firsts : List Tree → List Tree
firsts [] = []
firsts (t ∷ ts) = t ∷ filter (λ u. not (same t u)) (firsts ts)

-- `$setUnion`
abbrev pub set_union_row : List (Option Tree) → Outcome
set_union_row vs = row (all (map array_in vs)) (λ tss. gives_array (firsts (flat_map (λ ts. ts) tss)))

-- `$setIntersection`: the members of the first array that stand in all others
abbrev pub in_all : List (List Tree) → Tree → Bool
in_all tss t = list_all (λ ts. has ts t) tss

abbrev pub intersection : List (List Tree) → List Tree
intersection [] = []
intersection (ts ∷ tss) = filter (in_all tss) (firsts ts)

abbrev pub set_intersection_row : List (Option Tree) → Outcome
set_intersection_row vs = row (all (map array_in vs)) (λ tss. gives_array (intersection tss))

-- `$setDifference`: the members of the first array that don't stand in the second
abbrev pub set_difference_row : List (Option Tree) → Outcome
set_difference_row (a ∷ b ∷ []) = row (both (array_in a) (array_in b)) (λ p. gives_array (filter (λ t. not (has p.1 t)) (firsts p.0)))
set_difference_row _ = wrong_count

-- `$setIsSubset`: null and missing are no arrays
abbrev pub is_subset : List Tree → List Tree → Bool
is_subset ts us = list_all (has us) ts

abbrev pub set_is_subset_row : List (Option Tree) → Outcome
set_is_subset_row (a ∷ b ∷ []) = row (needed NotArray (both (array_in a) (array_in b))) (λ p. gives_flag (is_subset p.0 p.1))
set_is_subset_row _ = wrong_count

-- `$setEquals`: of two arrays or more, each has the members of the first and no others
abbrev pub are_equal : List (List Tree) → Bool
are_equal [] = true
are_equal (ts ∷ tss) = list_all (λ us. is_subset ts us && is_subset us ts) tss

abbrev pub set_equals_row : List (Option Tree) → Outcome
set_equals_row (a ∷ b ∷ vs) = row (needed NotArray (all (map array_in (a ∷ b ∷ vs)))) (λ tss. gives_flag (are_equal tss))
set_equals_row _ = wrong_count

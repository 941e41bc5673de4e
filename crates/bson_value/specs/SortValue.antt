-- The value of a path by which documents are sorted (the manual, Comparison and Sort Order: arrays).
use Rattle.std.specs.Prelude.{ℕ, Bool, List, [], ◌∷◌, map, Option, Some, None, if◌then◌else◌}
use Rattle.std.specs.List.{flat_map}
use Rattle.std.specs.Ordering.{is_lt, is_gt}
use Rattle.bson_value.specs.Tree.{Tree, leaf, null, doc, list, no_trees, tree, members}
use Rattle.bson_value.specs.Order.{part_order}
use Rattle.bson_value.specs.Paths.{Steps, ends}

-- what an end gives: an array its elements, an empty one the mark, which is none, and a missing one null
abbrev pub sort_parts : Option Tree → List (Option Tree)
sort_parts None = Some (leaf null) ∷ []
sort_parts (Some (leaf l)) = Some (leaf l) ∷ []
sort_parts (Some (doc ps)) = Some (doc ps) ∷ []
sort_parts (Some (list no_trees)) = None ∷ []
sort_parts (Some (list (tree t ts))) = Some t ∷ map Some (members ts)

-- x comes before y, in rising or falling order
abbrev pub comes_before : Bool → Option Tree → Option Tree → Bool
comes_before falling x y = if falling then is_gt (part_order x y) else is_lt (part_order x y)

-- the first of x and the others; of equal ones the first that stands there
abbrev pub first_from : Bool → Option Tree → List (Option Tree) → Option Tree
first_from falling x [] = x
first_from falling x (y ∷ ys) = first_from falling (if comes_before falling y x then y else x) ys

abbrev pub first_part : Bool → List (Option Tree) → Option Tree
first_part falling [] = Some (leaf null)
first_part falling (x ∷ xs) = first_from falling x xs

-- rising order takes the least, falling the greatest
abbrev pub sort_value : Bool → Steps → Tree → Option Tree
sort_value falling path t = first_part falling (flat_map sort_parts (ends path t))

-- Documents sorted by paths (the manual, `$sort`).
use Rattle.std.specs.Prelude.{ℕ, Bool, List, [], ◌∷◌, take, Option, Some, None, if◌then◌else◌}
use Rattle.std.specs.Ordering.{ordering_then, ordering_reverse, is_lt}
use Rattle.std.specs.declared.cmp.Ordering.{Ordering}
use Rattle.std.specs.declared.cmp.Ordering.TheVariants.{Equal}
use Rattle.bson_value.specs.Tree.{doc, pairs_of}
use Rattle.bson_value.specs.Order.{part_order}
use Rattle.bson_value.specs.SortValue.{sort_value}
use Rattle.stage_tree.specs.Stage.{Keys}
use Rattle.stage_tree.specs.Outcome.{Fields}

abbrev pub directed : Bool → Ordering → Ordering
directed falling o = if falling then ordering_reverse o else o

-- path after path, each with its sort value and its direction
abbrev pub sort_order : Keys → Fields → Fields → Ordering
sort_order [] d e = Equal
sort_order (k ∷ ks) d e =
    ordering_then (directed k.1 (part_order (sort_value k.1 k.0 (doc (pairs_of d))) (sort_value k.1 k.0 (doc (pairs_of e))))) (sort_order ks d e)

-- a document behind those that don't come after it
abbrev pub among : Keys → Fields → List Fields → List Fields
among ks d [] = d ∷ []
among ks d (e ∷ es) = if is_lt (sort_order ks d e) then d ∷ e ∷ es else e ∷ among ks d es

-- more documents, one after another, among those that are sorted: equal ones stay in their order
abbrev pub sorted_onto : Keys → List Fields → List Fields → List Fields
sorted_onto ks es [] = es
sorted_onto ks es (d ∷ ds) = sorted_onto ks (among ks d es) ds

abbrev pub capped : Option ℕ → List Fields → List Fields
capped None ds = ds
capped (Some n) ds = take n ds

-- `$sort`; only the first documents, where a cap is given
abbrev pub sort_row : Keys → Option ℕ → List Fields → List Fields
sort_row ks cap ds = capped cap (sorted_onto ks [] ds)

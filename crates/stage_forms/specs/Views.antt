-- Paths with values, as the code has them.
use Rattle.std.specs.Prelude.{List, map, Option, Some, None}
use Rattle.bson_value.specs.Paths.{Steps}
use Rattle.bson_value.specs.Tree.{Tree}
use Rattle.bson_value.specs.View.{tree_of}
use Rattle.bson_value.specs.declared.value.Value.{Value}
use Rattle.expr_read.specs.Reading.{only_if}
use Rattle.stage_tree.specs.Outcome.{Fields}
use Rattle.stage_parts.specs.Values.{as_fields}
use Rattle.stage_forms.specs.Leaves.{Leaves, nests}
use denote.Ref.{Bor}

abbrev pub leaves_in : List (Steps × Bor Value) → Leaves
leaves_in ls = map (λ l. (l.0, tree_of l.1.now)) ls

-- the fields of a document that stands for longer paths
abbrev pub nested_fields : Option Fields → Option Fields
nested_fields (Some ps) = only_if (nests ps) (Some ps)
nested_fields None = None

abbrev pub nested : Tree → Option Fields
nested t = nested_fields (as_fields t)

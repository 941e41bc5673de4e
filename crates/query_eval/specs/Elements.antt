-- A test of an element of an array, as the calls have it.
use Rattle.std.specs.Prelude.{true, false, List, [], ◌∷◌, map, Option, Ok, if◌then◌else◌}
use Rattle.bson_value.specs.Tree.{Tree}
use Rattle.expr_tree.specs.Rows.{◌>>=◌}
use Rattle.expr_tree.specs.QueryView.{query_of, test_of}
use Rattle.expr_tree.specs.Holds.{Verdict, holds, holding_of, on_document, on_itself, some_element, elements}
use Rattle.query_eval.specs.declared.queries.ElementTest.{ElementTest}
use Rattle.query_eval.specs.declared.queries.ElementTest.TheVariants as E

abbrev pub element_passes : ElementTest → Tree → Verdict
element_passes (E.Query q) = on_document (holds (query_of q.now))
element_passes (E.Tests ts) = on_itself (holding_of (map test_of ts.now))

-- end after end
abbrev pub some_end_element : (Tree → Verdict) → List (Option Tree) → Verdict
some_end_element go [] = Ok false
some_end_element go (o ∷ os) = some_element go (elements o) >>= λ b. if b then Ok true else some_end_element go os

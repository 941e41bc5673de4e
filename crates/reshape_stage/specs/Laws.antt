-- What a stage gives for a whole list, a Match of one item among them.
use Rattle.std.specs.Prelude.{◌≡◌, ℕ, List, [], ◌∷◌, Some, Ok}
use Rattle.expr_tree.specs.QueryNode.{QueryNode}
use Rattle.stage_tree.specs.Stage.{StageHead, match}
use Rattle.stage_tree.specs.Outcome.{Fields, Given, World, Running, each_doc}
use Rattle.stage_tree.specs.Rows.{match_row}
use Rattle.stage_tree.specs.Written.{row}
use Rattle.reshape_stage.specs.Work.{Work, started, in_all}

abbrev pub item_row : List (QueryNode × ℕ) → List Fields → Given
item_row [] ds = Ok ds
item_row (i ∷ is) ds = each_doc (match_row i.0) ds

abbrev pub row_of : StageHead → List Running → World → List Fields → Given
row_of (match is) ms w ds = item_row is ds
row_of h ms w ds = row h ms w ds

-- all that the operator of a stage gives is the stage's list, or the least of its codes
abbrev pub OperatorIsRow : Type 0
OperatorIsRow = (h : StageHead) (work : Work) (ms : List Running) (w : World) (ds : List Fields) → started h ≡ Some work → in_all work ds ≡ row_of h ms w ds

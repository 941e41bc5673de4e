use Rattle.std.proofs.Common.{◌≡◌, ◌++◌, drop}
use Rattle.stage_tree.specs.Rows.{with_id}
use Rattle.reshape_stage.proofs.operator.with_id.Given as goal

abbrev pub invariant-loop-path : goal.invariant-loop-path
invariant-loop-path l = l.all ++ drop l.path-index l.path-items ≡ with_id l.wanted l.path-items

use Rattle.std.proofs.Common.{◌≡◌, take}
use Rattle.stage_tree.specs.Rows.{steps_of}
use Rattle.reshape_stage.proofs.operator.names_in.Given as goal

abbrev pub invariant-loop-path : goal.invariant-loop-path
invariant-loop-path l = steps_of l.names ≡ take l.path-index l.paths

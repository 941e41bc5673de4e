use Rattle.std.proofs.Common.{◌≡◌, drop}
use Rattle.stage_tree.specs.Rows.{unset_all}
use Rattle.reshape_stage.proofs.values.unset_all.Given as goal

abbrev pub invariant-loop-path : goal.invariant-loop-path
invariant-loop-path l = unset_all (drop l.path-index l.paths) l.doc ≡ unset_all l.paths l.initial.doc

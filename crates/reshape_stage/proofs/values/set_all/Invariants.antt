use Rattle.std.proofs.Common.{◌≡◌, length}
use Rattle.stage_tree.specs.Rows.{set_all}
use Rattle.reshape_stage.specs.Seen.{set_in}
use Rattle.reshape_stage.proofs.values.set_all.Given as goal

abbrev pub invariant-loop-path : goal.invariant-loop-path
invariant-loop-path l = set_all (set_in l.values.items) l.doc ≡ set_all (set_in l.initial.values.items) l.initial.doc

abbrev pub decreases-loop-path : goal.decreases-loop-path
decreases-loop-path l = length l.values.items

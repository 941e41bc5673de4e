use Rattle.std.proofs.Common.{◌≡◌, drop}
use Rattle.stage_tree.specs.StageView.{made_in}
use Rattle.stage_tree.specs.Rows.{values_for}
use Rattle.reshape_stage.specs.Seen.{set_in}
use Rattle.reshape_stage.proofs.Joined.{so_far}
use Rattle.reshape_stage.proofs.values.values_for.Given as goal

abbrev pub invariant-loop-field : goal.invariant-loop-field
invariant-loop-field l = so_far l.least (set_in l.values.items) (values_for l.doc (made_in (drop l.field-index l.made))) ≡ values_for l.doc (made_in l.made)

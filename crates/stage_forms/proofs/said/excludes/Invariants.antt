use Rattle.std.proofs.Common.{◌≡◌, length}
use Rattle.stage_forms.specs.Project.{excludes}
use Rattle.stage_forms.specs.Views.{leaves_in}
use Rattle.stage_forms.proofs.said.excludes.Given as goal

abbrev pub invariant-loop-left : goal.invariant-loop-left
invariant-loop-left l = excludes (leaves_in l.left) ≡ excludes (leaves_in l.leaves)

abbrev pub decreases-loop-left : goal.decreases-loop-left
decreases-loop-left l = length l.left

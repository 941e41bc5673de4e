use Rattle.std.proofs.Common.{◌≡◌, [], length}
use Rattle.stage_tree.specs.StageView.{made_in}
use Rattle.stage_forms.specs.Reading.{made_from}
use Rattle.stage_forms.specs.Views.{leaves_in}
use Rattle.stage_forms.proofs.project.read_made.Given as goal

abbrev pub invariant-loop-path : goal.invariant-loop-path
invariant-loop-path l = made_from (made_in l.made) l.leaves ≡ made_from [] (leaves_in l.fn.found.items)

abbrev pub decreases-loop-path : goal.decreases-loop-path
decreases-loop-path l = length l.leaves

use Rattle.std.proofs.Common.{◌≡◌, [], length}
use Rattle.stage_tree.specs.StageView.{made_in}
use Rattle.stage_forms.specs.Reading.{parts_from}
use Rattle.stage_forms.specs.Views.{leaves_in}
use Rattle.stage_forms.proofs.project.read_parts.Given as goal

abbrev pub invariant-loop-path : goal.invariant-loop-path
invariant-loop-path l = parts_from (l.parts.0, made_in l.parts.1) l.leaves ≡ parts_from ([], []) (leaves_in l.fn.found.items)

abbrev pub decreases-loop-path : goal.decreases-loop-path
decreases-loop-path l = length l.leaves

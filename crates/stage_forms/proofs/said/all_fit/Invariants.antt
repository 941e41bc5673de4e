use Rattle.std.proofs.Common.{◌≡◌, drop}
use Rattle.std.specs.List.{list_all}
use Rattle.stage_forms.specs.Project.{fits}
use Rattle.stage_forms.specs.Views.{leaves_in}
use Rattle.stage_forms.proofs.said.all_fit.Given as goal

abbrev pub invariant-loop-leaf : goal.invariant-loop-leaf
invariant-loop-leaf l = list_all (fits l.excl) (leaves_in (drop l.leaf-index l.leaves)) ≡ list_all (fits l.excl) (leaves_in l.leaves)

use Rattle.std.proofs.Common.{◌≡◌, take}
use Rattle.stage_tree.proofs.stage.+copy.Given as goal

abbrev pub invariant-Pipeline::copy-loop-stage : goal.invariant-Pipeline::copy-loop-stage
invariant-Pipeline::copy-loop-stage l = l.stages.items ≡ take l.stage-index l.stage-items

abbrev pub invariant-Facets::copy-loop-facet : goal.invariant-Facets::copy-loop-facet
invariant-Facets::copy-loop-facet l = l.facets.items ≡ take l.facet-index l.facet-items

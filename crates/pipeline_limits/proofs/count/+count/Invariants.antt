use Rattle.std.proofs.Common.{◌≡◌, ◌+◌, ◌*◌, ◌≤◌, drop}
use Rattle.expr_tree.specs.Bound.{no_more}
use Rattle.stage_tree.specs.Stage.{stage_size, stages_size, pipes_size, stages_of, pipes_of}
use Rattle.stage_tree.specs.StageView.{stage_of}
use Rattle.pipeline_limits.specs.Limits.{stages_in, stages_within}
use Rattle.pipeline_limits.proofs.count.+count.Given as goal

abbrev pub decreases-count_stages : goal.decreases-count_stages
decreases-count_stages l = 2 * stages_size (stages_of l.stages.now) + 1

abbrev pub decreases-count_stage : goal.decreases-count_stage
decreases-count_stage l = 2 * stage_size (stage_of l.stage.now)

abbrev pub decreases-count_facets : goal.decreases-count_facets
decreases-count_facets l = 2 * pipes_size (pipes_of l.facets.now) + 1

abbrev pub invariant-count_stages-loop-placed : goal.invariant-count_stages-loop-placed
invariant-count_stages-loop-placed l = record {
  fits : l.count ≤ 18_446_744_073_709_551_615;
  counted : no_more (l.count + stages_in (stages_of (drop l.placed-index l.stages))) ≡ no_more (stages_in (stages_of l.stages));
}

abbrev pub invariant-count_facets-loop-facet : goal.invariant-count_facets-loop-facet
invariant-count_facets-loop-facet l = record {
  fits : l.count ≤ 18_446_744_073_709_551_615;
  counted : no_more (l.count + stages_within (pipes_of (drop l.facet-index l.facets))) ≡ no_more (stages_within (pipes_of l.facets));
}

use Rattle.std.proofs.Common.{◌≡◌, ◌+◌, ◌*◌, drop}
use Rattle.stage_tree.specs.Stage.{stage_size, stages_size, pipes_size, stages_of, pipes_of}
use Rattle.stage_tree.specs.StageView.{stage_of}
use Rattle.pipeline_limits.specs.Walk.{walk, walk_pipes}
use Rattle.pipeline_limits.proofs.walk.+walk.Given as goal

abbrev pub decreases-through_stage : goal.decreases-through_stage
decreases-through_stage l = 3 * stage_size (stage_of l.stage.now) + 1

abbrev pub decreases-through_inner : goal.decreases-through_inner
decreases-through_inner l = 3 * stage_size (stage_of l.stage.now)

abbrev pub decreases-through_stages : goal.decreases-through_stages
decreases-through_stages l = 3 * stages_size (stages_of l.stages.now) + 2

abbrev pub decreases-through_facets : goal.decreases-through_facets
decreases-through_facets l = 3 * pipes_size (pipes_of l.facets.now) + 2

abbrev pub invariant-through_stages-loop-placed : goal.invariant-through_stages-loop-placed
invariant-through_stages-loop-placed l = walk (stages_of (drop l.placed-index l.stages)) l.bound ≡ walk (stages_of l.stages) l.depth

abbrev pub invariant-through_facets-loop-facet : goal.invariant-through_facets-loop-facet
invariant-through_facets-loop-facet l = walk_pipes l.deepest (pipes_of (drop l.facet-index l.facets)) l.depth ≡ walk_pipes 0 (pipes_of l.facets) l.depth

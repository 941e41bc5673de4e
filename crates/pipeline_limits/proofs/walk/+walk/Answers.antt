use Rattle.std.proofs.Common.{arith}
use Rattle.pipeline_limits.proofs.Sizes.{stage-at, facet-at}
use Rattle.pipeline_limits.proofs.walk.+walk.Goals as goal

pub through_stages-through_stage-requires : goal.through_stages-through_stage-requires
through_stages-through_stage-requires t c = (rw c.stage.ensures (omega (arith, c.decreases, stage-at c.args.stages.now c.loop-placed.placed-index c.placed-item.result (omega arith) c.placed-item.is)), tt)

pub through_facets-through_stages-requires : goal.through_facets-through_stages-requires
through_facets-through_stages-requires t c = (rw c.stages.ensures (omega (arith, c.decreases, facet-at c.args.facets.now c.loop-facet.facet-index c.facet-item.result (omega arith) c.facet-item.is)), tt)

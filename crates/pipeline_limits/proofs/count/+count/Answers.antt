use Rattle.std.proofs.Common.{arith}
use Rattle.pipeline_limits.proofs.Sizes.{stage-at, facet-at}
use Rattle.pipeline_limits.proofs.count.+count.Goals as goal

pub count_stages-count_stage-requires : goal.count_stages-count_stage-requires
count_stages-count_stage-requires t c = (rw c.stage.ensures (omega (arith, c.decreases, stage-at c.args.stages.now c.loop-placed.placed-index c.placed-item.result (omega arith) c.placed-item.is)), tt)

pub count_facets-count_stages-requires : goal.count_facets-count_stages-requires
count_facets-count_stages-requires t c = (rw c.stages.ensures (omega (arith, c.decreases, facet-at c.args.facets.now c.loop-facet.facet-index c.facet-item.result (omega arith) c.facet-item.is)), tt)

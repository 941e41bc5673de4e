use Rattle.std.proofs.Common.{◌+◌, ◌*◌}
use Rattle.pipeline_cases.proofs.outline.+outline.Given as goal

abbrev pub decreases-inner : goal.decreases-inner
decreases-inner l = 4 * l.deep

abbrev pub decreases-facets : goal.decreases-facets
decreases-facets l = 4 * l.deep + 1

abbrev pub decreases-with_stage : goal.decreases-with_stage
decreases-with_stage l = 4 * l.deep + 2

abbrev pub decreases-stages : goal.decreases-stages
decreases-stages l = 4 * l.deep + 3

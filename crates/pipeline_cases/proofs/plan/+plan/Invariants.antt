use Rattle.std.proofs.Common.{◌+◌, ◌*◌}
use Rattle.pipeline_cases.proofs.plan.+plan.Given as goal

abbrev pub decreases-inner : goal.decreases-inner
decreases-inner l = 2 * l.deep

abbrev pub decreases-pipeline : goal.decreases-pipeline
decreases-pipeline l = 2 * l.deep + 1

use Rattle.std.proofs.Common.{sym, ◌∙◌, arith}
use Rattle.stage_tree.specs.Stage.{stages_of}
use Rattle.pipeline_limits.proofs.Walked.{place-within}
use Rattle.pipeline_limits.proofs.limits.over_limits.Goals as goal

pub overflow_cast-result : goal.overflow_cast-result
overflow_cast-result c = omega (arith, place-within (stages_of c.args.pipeline.now) 1 100 c.in_ok-place.place (sym c.first_too_deep.ensures ∙ c.in_ok-place.was), c.stage_count.ensures, c.if-stage_count-gt-MOST_STAGES.false)

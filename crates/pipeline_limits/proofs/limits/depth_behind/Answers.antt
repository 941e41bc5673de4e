use Rattle.stage_tree.specs.Stage.{stages_of}
use Rattle.pipeline_limits.proofs.Walked.{walked}
use Rattle.pipeline_limits.proofs.limits.depth_behind.Goals as goal

pub returns : goal.returns
returns c = rw (c.through_stages.ensures, c.stages.ensures) (walked (stages_of c.args.pipeline.now) c.args.depth)

use Rattle.stage_laws.proofs.SpelledPaths.{spelled}
use Rattle.stage_laws.proofs.depths.paths_have_steps.Goals as goal

pub returns : goal.returns
returns c = spelled

use Rattle.stage_laws.proofs.Graph.{takes}
use Rattle.stage_laws.proofs.levels.level_takes.Goals as goal

pub returns : goal.returns
returns c = takes

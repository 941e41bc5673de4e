use Rattle.stage_laws.proofs.MetBounds.{met}
use Rattle.stage_laws.proofs.depths.bound_is_met.Goals as goal

pub returns : goal.returns
returns c = met

use Rattle.reshape_stage.proofs.Whole.{operator_is_row as the_law}
use Rattle.reshape_stage.proofs.laws.operator_is_row.Goals as goal

pub returns : goal.returns
returns c = the_law

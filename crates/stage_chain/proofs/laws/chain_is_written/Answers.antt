use Rattle.stage_chain.proofs.Run.{chain_is_written as the_law}
use Rattle.stage_chain.proofs.laws.chain_is_written.Goals as goal

pub returns : goal.returns
returns c = the_law

use Rattle.aggregate_command.proofs.Meanings.{writes_exactly}
use Rattle.aggregate_command.proofs.laws.verdict_is.Goals as goal

pub returns : goal.returns
returns c = writes_exactly (λ fields command. c.command_is.ensures.good fields command.0 command.1)

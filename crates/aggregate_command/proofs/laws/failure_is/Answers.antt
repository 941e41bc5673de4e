use Rattle.aggregate_command.proofs.Failures.{fails_exactly}
use Rattle.aggregate_command.proofs.laws.failure_is.Goals as goal

pub returns : goal.returns
returns c = fails_exactly (λ fields command. c.command_is.ensures.good fields command.0 command.1)

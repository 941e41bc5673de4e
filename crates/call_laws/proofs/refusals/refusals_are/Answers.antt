use Rattle.call_laws.proofs.Refused.{usage_is, not_built_is, bad_command_is, bad_cluster_is, bad_shard_is, no_file_is, too_long_is, only_refusals}
use Rattle.call_laws.proofs.refusals.refusals_are.Goals as goal

pub returns-clause-usage : goal.returns-clause-usage
returns-clause-usage c words held = usage_is (λ w m. c.modes_are_written.ensures.modes w m) (λ fields command. c.command_is.ensures.good fields command.0 command.1) (λ fields b. c.command_is.ensures.bad fields b) words held

pub returns-clause-not_built : goal.returns-clause-not_built
returns-clause-not_built c words held = not_built_is (λ w m. c.modes_are_written.ensures.modes w m) (λ fields command. c.command_is.ensures.good fields command.0 command.1) (λ fields b. c.command_is.ensures.bad fields b) words held

pub returns-clause-bad_command : goal.returns-clause-bad_command
returns-clause-bad_command c words held b = bad_command_is (λ w m. c.modes_are_written.ensures.modes w m) (λ fields command. c.command_is.ensures.good fields command.0 command.1) (λ fields b. c.command_is.ensures.bad fields b) words held b

pub returns-clause-bad_cluster : goal.returns-clause-bad_cluster
returns-clause-bad_cluster c words held b = bad_cluster_is (λ w m. c.modes_are_written.ensures.modes w m) (λ fields command. c.command_is.ensures.good fields command.0 command.1) (λ fields b. c.command_is.ensures.bad fields b) words held b

pub returns-clause-bad_shard : goal.returns-clause-bad_shard
returns-clause-bad_shard c words held b = bad_shard_is (λ w m. c.modes_are_written.ensures.modes w m) (λ fields command. c.command_is.ensures.good fields command.0 command.1) (λ fields b. c.command_is.ensures.bad fields b) words held b

pub returns-clause-no_file : goal.returns-clause-no_file
returns-clause-no_file c words held name = no_file_is (λ w m. c.modes_are_written.ensures.modes w m) (λ fields command. c.command_is.ensures.good fields command.0 command.1) (λ fields b. c.command_is.ensures.bad fields b) words held name

pub returns-clause-too_long : goal.returns-clause-too_long
returns-clause-too_long c words held name len = too_long_is (λ w m. c.modes_are_written.ensures.modes w m) (λ fields command. c.command_is.ensures.good fields command.0 command.1) (λ fields b. c.command_is.ensures.bad fields b) words held name len

pub returns-clause-others : goal.returns-clause-others
returns-clause-others c words held refusal = only_refusals (λ w m. c.modes_are_written.ensures.modes w m) (λ fields command. c.command_is.ensures.good fields command.0 command.1) (λ fields b. c.command_is.ensures.bad fields b) words held refusal

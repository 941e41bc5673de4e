use Rattle.stage_laws.proofs.Batches.{count, each, none}
use Rattle.stage_laws.proofs.merging.shard_gives_batches.Goals as goal

pub returns-clause-count : goal.returns-clause-count
returns-clause-count c = count

pub returns-clause-each : goal.returns-clause-each
returns-clause-each c = each

pub returns-clause-none : goal.returns-clause-none
returns-clause-none c = none

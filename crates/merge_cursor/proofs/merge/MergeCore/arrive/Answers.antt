use Rattle.merge_cursor.specs.Schedule.{arrives}
use Rattle.merge_cursor.proofs.Calls.{carries}
use Rattle.merge_cursor.proofs.merge.MergeCore.arrive.Goals as goal

pub returns-clause-schedule : goal.returns-clause-schedule
returns-clause-schedule c = carries _ (arrives c.args.shard c.args.batch.items) _ c.accept.ensures

use Rattle.merge_cursor.proofs.Calls.{asked_carries, none_exact}
use Rattle.merge_cursor.proofs.merge.MergeCore.asks.Goals as goal

pub returns-clause-none : goal.returns-clause-none
returns-clause-none c = none_exact _ c.ask_next.result _ c.ask_next.ensures

pub returns-clause-schedule : goal.returns-clause-schedule
returns-clause-schedule c = asked_carries _ c.ask_next.result _ c.ask_next.ensures

use Rattle.merge_cursor.proofs.Schedules.{takes_prefix, takes_all}
use Rattle.merge_cursor.proofs.laws.takes_the_whole.Goals as goal

pub returns-clause-prefix : goal.returns-clause-prefix
returns-clause-prefix c = takes_prefix

pub returns-clause-all : goal.returns-clause-all
returns-clause-all c = takes_all

use Rattle.merge_cursor.proofs.Runs.{taken-append, lists-append, failures-append}
use Rattle.merge_cursor.proofs.laws.schedules_join.Goals as goal

pub returns-clause-taken : goal.returns-clause-taken
returns-clause-taken c = taken-append

pub returns-clause-lists : goal.returns-clause-lists
returns-clause-lists c = lists-append

pub returns-clause-failures : goal.returns-clause-failures
returns-clause-failures c = failures-append

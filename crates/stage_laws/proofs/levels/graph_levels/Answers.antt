use Rattle.stage_laws.proofs.Graph.{there_are, ended, all_found, most_found}
use Rattle.stage_laws.proofs.levels.graph_levels.Goals as goal

pub returns-clause-there_are : goal.returns-clause-there_are
returns-clause-there_are c = there_are

pub returns-clause-ended : goal.returns-clause-ended
returns-clause-ended c = ended

pub returns-clause-all : goal.returns-clause-all
returns-clause-all c = all_found

pub returns-clause-most : goal.returns-clause-most
returns-clause-most c = most_found

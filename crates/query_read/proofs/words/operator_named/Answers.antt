use Rattle.query_read.specs.Words.{operators, operator_named}
use Rattle.query_read.proofs.words.operator_named.Goals as goal

pub returns : goal.returns
unfolding operators operator_named
returns c = c.find_operator.ensures

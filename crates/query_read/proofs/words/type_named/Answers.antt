use Rattle.query_read.specs.Words.{types, type_named}
use Rattle.query_read.proofs.words.type_named.Goals as goal

pub returns : goal.returns
unfolding types type_named
returns c = c.find_type.ensures

use Rattle.std.proofs.Common.{length}
use Rattle.query_read.proofs.words.+find_operator.Given as goal

abbrev pub decreases-find_operator : goal.decreases-find_operator
decreases-find_operator l = length l.operators.now

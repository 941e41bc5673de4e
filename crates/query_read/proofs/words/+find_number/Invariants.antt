use Rattle.std.proofs.Common.{length}
use Rattle.query_read.proofs.words.+find_number.Given as goal

abbrev pub decreases-find_number : goal.decreases-find_number
decreases-find_number l = length l.numbers.now

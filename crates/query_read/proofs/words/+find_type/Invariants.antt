use Rattle.std.proofs.Common.{length}
use Rattle.query_read.proofs.words.+find_type.Given as goal

abbrev pub decreases-find_type : goal.decreases-find_type
decreases-find_type l = length l.types.now

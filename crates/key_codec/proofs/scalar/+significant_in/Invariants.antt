use Rattle.std.proofs.Common.{length}
use Rattle.key_codec.proofs.scalar.+significant_in.Given as goal

abbrev pub decreases-significant_in : goal.decreases-significant_in
decreases-significant_in l = length l.bytes.now

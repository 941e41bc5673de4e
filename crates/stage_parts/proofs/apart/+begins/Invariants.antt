use Rattle.std.proofs.Common.{length}
use Rattle.stage_parts.proofs.apart.+begins.Given as goal

abbrev pub decreases-begins : goal.decreases-begins
decreases-begins l = length l.front.now

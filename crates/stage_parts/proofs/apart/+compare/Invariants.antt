use Rattle.std.proofs.Common.{length}
use Rattle.stage_parts.proofs.apart.+compare.Given as goal

abbrev pub decreases-compare : goal.decreases-compare
decreases-compare l = length l.a.now

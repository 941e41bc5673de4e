use Rattle.std.proofs.Common.{length}
use Rattle.stage_chain.proofs.docs.clear.Given as goal

abbrev pub decreases-loop-doc : goal.decreases-loop-doc
decreases-loop-doc l = length l.docs

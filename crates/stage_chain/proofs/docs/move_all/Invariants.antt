use Rattle.std.proofs.Common.{◌≡◌, ◌++◌, length}
use Rattle.stage_chain.proofs.docs.move_all.Given as goal

abbrev pub invariant-loop-doc : goal.invariant-loop-doc
invariant-loop-doc l = l.out ++ l.docs ≡ l.fn.out ++ l.fn.docs

abbrev pub decreases-loop-doc : goal.decreases-loop-doc
decreases-loop-doc l = length l.docs

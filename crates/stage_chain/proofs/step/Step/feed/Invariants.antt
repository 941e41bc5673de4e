use Rattle.std.proofs.Common.{◌≡◌, length, []}
use Rattle.stage_chain.proofs.Feeding.{gone}
use Rattle.stage_chain.proofs.step.Step.feed.Given as goal

abbrev pub invariant-loop-doc : goal.invariant-loop-doc
invariant-loop-doc l = gone l.self l.spare l.docs ≡ gone l.fn.self [] l.fn.docs

abbrev pub decreases-loop-doc : goal.decreases-loop-doc
decreases-loop-doc l = length l.docs

use Rattle.std.proofs.Common.{◌≡◌}
use Rattle.stage_chain.specs.Chain.{fed}
use Rattle.stage_chain.proofs.Feeding.{fed_from}
use Rattle.stage_chain.proofs.chain.feed_all.Given as goal

abbrev pub invariant-loop-i : goal.invariant-loop-i
invariant-loop-i l = fed_from l.i l.steps.items l.docs ≡ fed l.fn.steps.items l.fn.docs

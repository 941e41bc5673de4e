use Rattle.std.proofs.Common.{◌≡◌}
use Rattle.stage_chain.specs.Chain.{drained}
use Rattle.stage_chain.proofs.Feeding.{drained_from}
use Rattle.stage_chain.proofs.chain.drain_all.Given as goal

abbrev pub invariant-loop-i : goal.invariant-loop-i
invariant-loop-i l = drained_from l.i l.steps.items l.docs ≡ drained l.fn.steps.items l.fn.docs

use Rattle.std.proofs.Common.{◌≡◌, drop}
use Rattle.stage_chain.specs.Chain.{failure_of}
use Rattle.stage_chain.proofs.chain.Chain.failure.Given as goal

abbrev pub invariant-loop-step : goal.invariant-loop-step
invariant-loop-step l = failure_of (drop l.step-index l.step-items) ≡ failure_of l.step-items

use Rattle.std.proofs.Common.{◌≡◌, drop}
use Rattle.stage_tree.specs.Outcome.{least_of}
use Rattle.stage_chain.proofs.chain.least_origin.Given as goal

abbrev pub invariant-loop-origin : goal.invariant-loop-origin
invariant-loop-origin l = least_of l.least (drop l.origin-index l.rest) ≡ least_of l.initial.least l.rest

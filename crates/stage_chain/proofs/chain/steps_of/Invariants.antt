use Rattle.std.proofs.Common.{◌≡◌, ◌++◌, drop}
use Rattle.stage_tree.specs.Stage.{stages_of}
use Rattle.stage_chain.specs.Chain.{started}
use Rattle.stage_chain.proofs.chain.steps_of.Given as goal

abbrev pub invariant-loop-placed : goal.invariant-loop-placed
invariant-loop-placed l = l.steps.items ++ started (stages_of (drop l.placed-index l.stages)) ≡ started (stages_of l.stages)

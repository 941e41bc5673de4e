use Rattle.std.proofs.Common.{◌≡◌, drop}
use Rattle.stage_tree.specs.Stage.{stages_of}
use Rattle.stage_chain.specs.Chain.{is_built}
use Rattle.stage_chain.proofs.built.is_built.Given as goal

abbrev pub invariant-loop-placed : goal.invariant-loop-placed
invariant-loop-placed l = is_built (stages_of (drop l.placed-index l.placed-items)) ≡ is_built (stages_of l.placed-items)

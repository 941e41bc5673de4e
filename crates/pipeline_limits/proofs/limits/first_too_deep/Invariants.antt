use Rattle.std.proofs.Common.{◌≡◌, ◌+◌, drop}
use Rattle.stage_tree.specs.Stage.{stages_of}
use Rattle.pipeline_limits.specs.Limits.{first_passing}
use Rattle.pipeline_limits.proofs.limits.first_too_deep.Given as goal

abbrev pub invariant-loop-placed : goal.invariant-loop-placed
invariant-loop-placed l = record {
  place : l.place ≡ l.placed-index + 1;
  first : first_passing l.place l.depth (stages_of (drop l.placed-index l.placed-items)) ≡ first_passing 1 100 (stages_of l.placed-items);
}

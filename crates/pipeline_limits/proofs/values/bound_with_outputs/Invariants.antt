use Rattle.std.proofs.Common.{◌≡◌, drop, map}
use Rattle.stage_tree.specs.StageView.{window_of}
use Rattle.pipeline_limits.specs.Limits.{outputs_bound}
use Rattle.pipeline_limits.proofs.values.bound_with_outputs.Given as goal

abbrev pub invariant-loop-output : goal.invariant-loop-output
invariant-loop-output l = outputs_bound (map (λ o. (o.0, window_of o.1)) (drop l.output-index l.outputs)) l.value l.bound ≡ outputs_bound (map (λ o. (o.0, window_of o.1)) l.outputs) l.value l.depth

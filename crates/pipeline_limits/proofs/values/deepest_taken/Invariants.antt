use Rattle.std.proofs.Common.{◌≡◌, drop, map}
use Rattle.stage_tree.specs.StageView.{window_of}
use Rattle.pipeline_limits.specs.Limits.{functions_bound}
use Rattle.pipeline_limits.proofs.values.deepest_taken.Given as goal

abbrev pub invariant-loop-output : goal.invariant-loop-output
invariant-loop-output l = functions_bound l.deepest l.depth (map (λ o. (o.0, window_of o.1)) (drop l.output-index l.outputs)) ≡ functions_bound l.found l.depth (map (λ o. (o.0, window_of o.1)) l.outputs)

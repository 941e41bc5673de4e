use Rattle.std.proofs.Common.{◌≡◌, drop, map}
use Rattle.expr_tree.specs.View.{node_of}
use Rattle.pipeline_limits.specs.Limits.{arguments_bound}
use Rattle.pipeline_limits.proofs.values.deepest_argument.Given as goal

abbrev pub invariant-loop-part : goal.invariant-loop-part
invariant-loop-part l = arguments_bound l.deepest l.depth (map (λ p. (p.0, (p.1, node_of p.2))) (drop l.part-index l.parts)) ≡ arguments_bound l.found l.depth (map (λ p. (p.0, (p.1, node_of p.2))) l.parts)

use Rattle.std.proofs.Common.{◌≡◌, drop}
use Rattle.expr_tree.specs.Env.{last_of}
use Rattle.expr_eval.proofs.bound_scope.outer_bound.Given as goal

abbrev pub invariant-loop-bound : goal.invariant-loop-bound
invariant-loop-bound l = last_of l.name l.found (drop l.bound-index l.names) ≡ last_of l.name 0 l.names

use Rattle.std.proofs.Common.{◌≡◌, drop}
use Rattle.std.specs.Prelude.{None}
use Rattle.std.specs.Option.{option_map}
use Rattle.bson_value.specs.View.{tree_of}
use Rattle.expr_tree.specs.Env.{last_of}
use Rattle.expr_eval.specs.Seen.{bound_in}
use Rattle.expr_eval.proofs.env.Names.get.Given as goal

abbrev pub invariant-loop-bound : goal.invariant-loop-bound
invariant-loop-bound l = last_of l.name (option_map (λ v. tree_of v.now) l.found) (bound_in (drop l.bound-index l.bound-items)) ≡ last_of l.name None (bound_in l.bound-items)

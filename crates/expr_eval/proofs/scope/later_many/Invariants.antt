use Rattle.std.proofs.Common.{◌≡◌, drop}
use Rattle.std.specs.Option.{option_map}
use Rattle.bson_value.specs.View.{tree_of, founds}
use Rattle.expr_tree.specs.Env.{last_of, paired}
use Rattle.expr_eval.proofs.scope.later_many.Given as goal

abbrev pub invariant-loop-i : goal.invariant-loop-i
invariant-loop-i l = last_of l.name (option_map (λ v. tree_of v.now) l.found) (paired (drop l.i l.names) (founds (drop l.i l.values))) ≡ last_of l.name (option_map (λ v. tree_of v.now) l.fn.found) (paired l.names (founds l.values))

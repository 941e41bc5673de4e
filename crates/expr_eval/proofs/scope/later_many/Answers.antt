use Rattle.std.proofs.Common.{◌∙◌, ap, sym, arith}
use Rattle.std.specs.Option.{option_map}
use Rattle.bson_value.specs.View.{tree_of}
use Rattle.expr_tree.specs.Env.{last_of}
use Rattle.expr_eval.proofs.Bound.{paired-ended}
use Rattle.expr_eval.proofs.scope.later_many.Goals as goal

pub returns : goal.returns
returns c =
    ap (last_of c.args.name.now (option_map (λ v. tree_of v.now) c.loop-i.found)) (sym (paired-ended (option_map tree_of) c.args.names.now c.args.values.now c.loop-i.i (omega arith)))
    ∙ c.loop-i.invariant

use Rattle.std.proofs.Common.{◌≡◌, map}
use Rattle.bson_value.specs.View.{founds}
use Rattle.bson_value.specs.Operands.{or_null}
use Rattle.expr_eval.proofs.made.made_list.Given as goal

abbrev pub invariant-loop-value : goal.invariant-loop-value
invariant-loop-value l = l.list ≡ map or_null (founds l.yielded)

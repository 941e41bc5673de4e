use Rattle.std.proofs.Common.{◌≡◌, drop}
use Rattle.std.specs.List.{list_all}
use Rattle.bson_value.specs.View.{founds}
use Rattle.bson_value.specs.Operands.{is_int}
use Rattle.value_ops.proofs.numbers.all_ints.Given as goal

abbrev pub invariant-loop-operand : goal.invariant-loop-operand
invariant-loop-operand l = list_all is_int (founds (drop l.operand-index l.args)) ≡ list_all is_int (founds l.args)

use Rattle.std.proofs.Common.{◌≡◌, map, drop, pos, fold, Ok}
use Rattle.bson_value.specs.View.{founds}
use Rattle.bson_value.specs.Operands.{operand_map, all, whole_in}
use Rattle.bson_value.specs.NumberRows.{times}
use Rattle.value_ops.specs.Folded.{after}
use Rattle.value_ops.proofs.numbers.product_of.Given as goal

abbrev pub invariant-loop-i : goal.invariant-loop-i
invariant-loop-i l =
    after times l.product (all (map whole_in (founds (drop l.i l.args)))) ≡ operand_map (fold times (Ok (pos 1))) (all (map whole_in (founds l.args)))

use Rattle.std.proofs.Common.{◌≡◌, ◌++◌, [], map, drop, fold}
use Rattle.bson_value.specs.View.{founds}
use Rattle.bson_value.specs.Operands.{operand_map, all, array_in}
use Rattle.value_ops.specs.Folded.{after}
use Rattle.value_ops.proofs.arrays.joined.Given as goal

abbrev pub invariant-loop-operand : goal.invariant-loop-operand
invariant-loop-operand l =
    after ◌++◌ l.joined (all (map array_in (founds (drop l.operand-index l.args)))) ≡ operand_map (fold ◌++◌ []) (all (map array_in (founds l.args)))

use Rattle.std.proofs.Common.{◌≡◌, ◌*◌, ◌^◌, map, drop, ◌+ℤ◌, IfSome}
use Rattle.bson_value.specs.View.{founds}
use Rattle.bson_value.specs.Operands.{operand_map, all}
use Rattle.bson_value.specs.NumberRows.{summand_in, sum_of}
use Rattle.value_ops.specs.Folded.{after, IsWithin}
use Rattle.value_ops.proofs.numbers.sum_of.Given as goal

abbrev pub invariant-loop-operand : goal.invariant-loop-operand
invariant-loop-operand l = record {
  whole : after ◌+ℤ◌ l.sum (all (map summand_in (founds (drop l.operand-index l.args)))) ≡ operand_map sum_of (all (map summand_in (founds l.args)));
  bound : IfSome l.sum (λ s. IsWithin (2 ^ 63 * l.operand-index) s);
}

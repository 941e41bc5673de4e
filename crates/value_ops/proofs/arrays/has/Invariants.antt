use Rattle.std.proofs.Common.{◌≡◌, drop, Some}
use Rattle.std.specs.Option.{option_map}
use Rattle.std.specs.List.{list_any}
use Rattle.bson_value.specs.View.{tree_of}
use Rattle.bson_value.specs.Operands.{alike}
use Rattle.value_ops.proofs.arrays.has.Given as goal

abbrev pub invariant-loop-i : goal.invariant-loop-i
invariant-loop-i l =
    list_any (λ t. alike (option_map tree_of l.operand) (Some t)) (drop l.i l.list) ≡ list_any (λ t. alike (option_map tree_of l.operand) (Some t)) l.list

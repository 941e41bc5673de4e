use Rattle.std.proofs.Common.{◌≡◌, ◌++◌, [], map, drop, fold}
use Rattle.std.specs.Option.{option_map}
use Rattle.std.specs.String.{string_bytes}
use Rattle.bson_value.specs.View.{founds}
use Rattle.bson_value.specs.Operands.{operand_map, all, text_in}
use Rattle.value_ops.specs.Folded.{after}
use Rattle.value_ops.proofs.texts.joined.Given as goal

abbrev pub invariant-loop-operand : goal.invariant-loop-operand
invariant-loop-operand l =
    after ◌++◌ (option_map string_bytes l.text) (all (map text_in (founds (drop l.operand-index l.args)))) ≡ operand_map (fold ◌++◌ []) (all (map text_in (founds l.args)))

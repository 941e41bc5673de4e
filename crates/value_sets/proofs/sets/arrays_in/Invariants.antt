use Rattle.std.proofs.Common.{◌≡◌, map, drop}
use Rattle.bson_value.specs.View.{founds}
use Rattle.bson_value.specs.Operands.{all, array_in}
use Rattle.value_sets.proofs.Gathered.{gathered}
use Rattle.value_sets.proofs.sets.arrays_in.Given as goal

abbrev pub invariant-loop-operand : goal.invariant-loop-operand
invariant-loop-operand l = gathered l.arrays (all (map array_in (founds (drop l.operand-index l.args)))) ≡ all (map array_in (founds l.args))

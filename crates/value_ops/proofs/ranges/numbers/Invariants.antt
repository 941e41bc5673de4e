use Rattle.std.proofs.Common.{◌≡◌}
use Rattle.bson_value.specs.ArrayRows.{numbers_from}
use Rattle.value_ops.proofs.ranges.numbers.Given as goal

abbrev pub invariant-loop-steps : goal.invariant-loop-steps
invariant-loop-steps l = l.numbers ≡ numbers_from l.start l.step l.steps

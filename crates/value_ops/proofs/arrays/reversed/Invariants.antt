use Rattle.std.proofs.Common.{◌≡◌, take, reverse}
use Rattle.value_ops.proofs.arrays.reversed.Given as goal

abbrev pub invariant-loop-i : goal.invariant-loop-i
invariant-loop-i l = l.items ≡ take l.i (reverse l.list)

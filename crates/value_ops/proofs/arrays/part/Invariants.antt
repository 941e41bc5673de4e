use Rattle.std.proofs.Common.{◌≡◌, ◌++◌, slice_range}
use Rattle.value_ops.proofs.arrays.part.Given as goal

abbrev pub invariant-loop-i : goal.invariant-loop-i
invariant-loop-i l = l.items ++ slice_range l.list l.i l.to ≡ slice_range l.list l.from l.to

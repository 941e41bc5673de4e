use Rattle.std.proofs.Common.{◌≡◌, ◌++◌, take}
use Rattle.value_ops.proofs.arrays.append.Given as goal

abbrev pub invariant-loop-i : goal.invariant-loop-i
invariant-loop-i l = l.joined ≡ l.initial.joined ++ take l.i l.list

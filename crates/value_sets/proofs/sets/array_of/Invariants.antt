use Rattle.std.proofs.Common.{◌≡◌, take}
use Rattle.value_sets.proofs.sets.array_of.Given as goal

abbrev pub invariant-loop-member : goal.invariant-loop-member
invariant-loop-member l = l.array ≡ take l.member-index l.members

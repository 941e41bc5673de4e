use Rattle.std.proofs.Common.{◌≡◌, ◌++◌, drop}
use Rattle.std.specs.List.{filter}
use Rattle.bson_value.specs.SetRows.{has}
use Rattle.value_sets.proofs.sets.narrowed.Given as goal

abbrev pub invariant-loop-member : goal.invariant-loop-member
invariant-loop-member l = l.kept.items ++ filter (has l.array) (drop l.member-index l.members) ≡ filter (has l.array) l.members

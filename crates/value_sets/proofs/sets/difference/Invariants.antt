use Rattle.std.proofs.Common.{◌≡◌, ◌++◌, drop}
use Rattle.std.specs.Prelude.{not}
use Rattle.std.specs.List.{filter}
use Rattle.bson_value.specs.SetRows.{has, firsts}
use Rattle.value_sets.proofs.sets.difference.Given as goal

abbrev pub invariant-loop-member : goal.invariant-loop-member
invariant-loop-member l = l.kept ++ filter (λ t. not (has l.other t)) (drop l.member-index l.member-items) ≡ filter (λ t. not (has l.other t)) (firsts l.array)

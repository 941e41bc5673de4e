use Rattle.std.proofs.Common.{◌≡◌, drop, map}
use Rattle.std.specs.List.{filter}
use Rattle.bson_value.specs.SetRows.{firsts, in_all}
use Rattle.value_sets.proofs.sets.shared.Given as goal

abbrev pub invariant-loop-other : goal.invariant-loop-other
invariant-loop-other l = filter (in_all (map (λ a. a.now) (drop l.other-index l.others))) l.kept.items ≡ filter (in_all (map (λ a. a.now) l.others)) (firsts l.first)

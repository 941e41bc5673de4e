use Rattle.std.proofs.Common.{◌≡◌, ◌∷◌, drop, map}
use Rattle.bson_value.specs.SetRows.{are_equal as all_equal}
use Rattle.value_sets.proofs.sets.are_equal.Given as goal

abbrev pub invariant-loop-other : goal.invariant-loop-other
invariant-loop-other l = all_equal (l.first ∷ map (λ a. a.now) (drop l.other-index l.others)) ≡ all_equal (l.first ∷ map (λ a. a.now) l.others)

use Rattle.std.proofs.Common.{◌≡◌, [], drop, map}
use Rattle.std.specs.List.{flat_map}
use Rattle.indexmap.specs.IndexSet.{insert_all}
use Rattle.bson_value.specs.SetRows.{same}
use Rattle.value_sets.proofs.sets.union.Given as goal

abbrev pub invariant-loop-array : goal.invariant-loop-array
invariant-loop-array l = insert_all same l.set.keys (flat_map (λ ts. ts) (map (λ a. a.now) (drop l.array-index l.arrays))) ≡ insert_all same [] (flat_map (λ ts. ts) (map (λ a. a.now) l.arrays))

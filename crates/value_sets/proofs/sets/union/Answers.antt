use Rattle.std.proofs.Common.{◌≡◌, [], map, refl, ◌∙◌, arith}
use Rattle.std.specs.List.{flat_map}
use Rattle.bson_value.specs.SetRows.{firsts}
use Rattle.value_sets.proofs.AtPlace.{none_left}
use Rattle.value_sets.proofs.FirstPlaces.{inserted_first}
use Rattle.value_sets.proofs.sets.union.Goals as goal

pub returns : goal.returns
returns c =
    let none = none_left c.args.arrays.now c.loop-array.array-index (omega arith) in
    let keys : c.loop-array.set.keys ≡ firsts (flat_map (λ ts. ts) (map (λ a. a.now) c.args.arrays.now)) = (rw none at c.loop-array.invariant) ∙ inserted_first [] _ refl in
    rw (c.as_slice.ensures.keys ∙ keys) at c.array_of.ensures

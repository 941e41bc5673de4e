use Rattle.std.proofs.Common.{◌∙◌}
use Rattle.value_sets.proofs.FirstPlaces.{all_seen}
use Rattle.value_sets.proofs.sets.is_subset.Goals as goal

pub returns : goal.returns
returns c = c.are_in.ensures ∙ all_seen c.args.other.now c.args.array.now _ _ c.in_ok-set.ensures (c.as_slice.ensures.keys ∙ c.in_ok-members.ensures)

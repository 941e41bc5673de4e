use Rattle.std.proofs.Common.{◌∙◌}
use Rattle.value_sets.proofs.FirstPlaces.{inserted_first}
use Rattle.value_sets.proofs.sets.members_of.Goals as goal

pub returns : goal.returns
returns c = c.in_ok-add_members.ensures ∙ inserted_first _ c.args.array.now c.in_ok-set.ensures.empty

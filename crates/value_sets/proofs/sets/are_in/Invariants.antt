use Rattle.std.proofs.Common.{◌≡◌, drop}
use Rattle.std.specs.List.{list_all}
use Rattle.indexmap.specs.IndexSet.{contains}
use Rattle.bson_value.specs.SetRows.{same}
use Rattle.value_sets.proofs.sets.are_in.Given as goal

abbrev pub invariant-loop-member : goal.invariant-loop-member
invariant-loop-member l = list_all (contains same l.set) (drop l.member-index l.members) ≡ list_all (contains same l.set) l.members

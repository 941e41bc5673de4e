use Rattle.std.proofs.Common.{refl}
use Rattle.value_sets.proofs.Held.{members_trees}
use Rattle.value_sets.proofs.operand.array_value.Goals as goal

pub returns-in-List : goal.returns-in-List
returns-in-List c = rw (c.in-List.is, members_trees c.in-List.list) refl

use Rattle.std.proofs.Common.{refl}
use Rattle.bson_value.proofs.Distinct.{members_trees}
use Rattle.query_eval.proofs.checks.value_has_size.Goals as goal

pub returns-in-List : goal.returns-in-List
returns-in-List c = rw (c.in-List.is, members_trees c.in-List.list, c.len.ensures) refl

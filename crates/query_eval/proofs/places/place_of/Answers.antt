use Rattle.std.proofs.Common.{refl}
use Rattle.bson_value.proofs.Distinct.{members_trees}
use Rattle.query_eval.proofs.places.place_of.Goals as goal

pub returns-in-List-clause-candidates : goal.returns-in-List-clause-candidates
returns-in-List-clause-candidates c = rw (c.in-List.is, members_trees c.in-List.list) refl

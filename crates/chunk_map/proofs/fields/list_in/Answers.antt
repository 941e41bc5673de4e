use Rattle.std.proofs.Common.{sym, ap}
use Rattle.std.specs.Prelude.{List, Some}
use Rattle.bson_value.specs.Tree.{Tree}
use Rattle.bson_value.proofs.Distinct.{members_trees}
use Rattle.chunk_map.proofs.fields.list_in.Goals as goal

pub returns-in-List : goal.returns-in-List
returns-in-List c = rw c.in-List.is (ap (λ (l : List Tree). Some l) (sym (members_trees c.in-List.list)))

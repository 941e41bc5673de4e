use Rattle.std.proofs.Common.{List, sym, ap}
use Rattle.std.specs.Prelude.{Some}
use Rattle.bson_value.specs.Tree.{Tree}
use Rattle.stage_parts.proofs.Trees.{members_trees}
use Rattle.stage_parts.proofs.values.list_in.Goals as goal

pub returns-in-List-clause-items : goal.returns-in-List-clause-items
returns-in-List-clause-items c = rw c.in-List.is (ap (λ (l : List Tree). Some l) (sym (members_trees c.in-List.list)))

use Rattle.std.proofs.Common.{ℕ, List, sym, ap}
use Rattle.std.specs.Prelude.{Some}
use Rattle.bson_value.specs.Tree.{Tree}
use Rattle.stage_parts.proofs.Trees.{entries_pairs}
use Rattle.stage_parts.proofs.values.doc_in.Goals as goal

pub returns-in-Doc-clause-fields : goal.returns-in-Doc-clause-fields
returns-in-Doc-clause-fields c = rw c.in-Doc.is (ap (λ (d : List (List ℕ × Tree)). Some d) (sym (entries_pairs c.in-Doc.doc)))

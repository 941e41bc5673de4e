use Rattle.std.proofs.Common.{sym, ap}
use Rattle.std.specs.Prelude.{List, ℕ, Some}
use Rattle.bson_value.specs.Tree.{Tree}
use Rattle.bson_value.proofs.Distinct.{entries_pairs}
use Rattle.chunk_map.proofs.fields.doc_in.Goals as goal

pub returns-in-Doc : goal.returns-in-Doc
returns-in-Doc c = rw c.in-Doc.is (ap (λ (d : List (List ℕ × Tree)). Some d) (sym (entries_pairs c.in-Doc.doc)))

use Rattle.std.proofs.Common.{refl}
use Rattle.value_sets.proofs.Held.{entries_pairs}
use Rattle.value_sets.proofs.operand.doc_value.Goals as goal

pub returns-in-Doc : goal.returns-in-Doc
returns-in-Doc c = rw (c.in-Doc.is, entries_pairs c.in-Doc.doc) refl

use Rattle.std.proofs.Common.{refl}
use Rattle.doc_path.proofs.Steps.{entries_pairs}
use Rattle.reshape_stage.proofs.values.into_root.Goals as goal

pub returns-in-Some-Doc : goal.returns-in-Some-Doc
returns-in-Some-Doc c = rw (c.in-Some-Doc.is, c.in-Some-Doc.field-0-is, entries_pairs c.in-Some-Doc.root) refl

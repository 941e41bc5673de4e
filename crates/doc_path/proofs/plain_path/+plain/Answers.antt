use Rattle.doc_path.proofs.Steps.{plain_in_document}
use Rattle.doc_path.proofs.plain_path.+plain.Goals as goal

pub plain_in-returns-in-Doc : goal.plain_in-returns-in-Doc
plain_in-returns-in-Doc t c = rw (c.in-Doc.is, ← plain_in_document c.args.steps.now c.step-item.result _ c.in-len1-up.len_at_least c.step-item.is) c.plain_field.ensures

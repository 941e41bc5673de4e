use Rattle.doc_path.proofs.Steps.{plain_in_document}
use Rattle.doc_path.proofs.plain_path.plain.Goals as goal

pub returns-in-len1-up : goal.returns-in-len1-up
returns-in-len1-up c = rw (← c.steps.ensures, ← plain_in_document c.steps.result.now c.step-item.result c.args.doc.now c.in-len1-up.len_at_least c.step-item.is) c.plain_field.ensures

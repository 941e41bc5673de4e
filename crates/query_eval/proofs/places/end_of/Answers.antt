use Rattle.doc_path.proofs.Queried.{in_document}
use Rattle.query_eval.proofs.places.end_of.Goals as goal

pub returns-in-len1-up : goal.returns-in-len1-up
returns-in-len1-up c = rw (← c.steps.ensures, ← in_document c.steps.result.now c.step-item.result c.args.doc.now c.in-len1-up.len_at_least c.step-item.is) c.end_in_field.ensures

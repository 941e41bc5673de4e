use Rattle.doc_path.proofs.Queried.{in_document}
use Rattle.query_eval.proofs.places.+end.Goals as goal

pub end_in-returns-in-Doc : goal.end_in-returns-in-Doc
end_in-returns-in-Doc t c = rw (c.in-Doc.is, ← in_document c.args.steps.now c.step-item.result _ c.in-len1-up.len_at_least c.step-item.is) c.end_in_field.ensures

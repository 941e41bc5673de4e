use Rattle.std.proofs.Common.{refl}
use Rattle.doc_path.proofs.Queried.{in_document}
use Rattle.doc_path.proofs.query_path.ends.Goals as goal

pub returns-in_ok-ends_in_field-in-len1-up : goal.returns-in_ok-ends_in_field-in-len1-up
returns-in_ok-ends_in_field-in-len1-up c =
    rw (c.in_ok-ends_in_field-in-len1-up.ensures, c.new-found.ensures, ← c.steps.ensures, ← in_document c.steps.result.now c.step-item.result c.args.doc.now c.in-len1-up.len_at_least c.step-item.is) refl

use Rattle.std.proofs.Common.{◌∙◌, ap}
use Rattle.doc_path.proofs.Steps.{plain_in_document}
use Rattle.reshape_stage.proofs.unwind.take_at.Goals as goal

pub returns-in-len1-up-clause-value : goal.returns-in-len1-up-clause-value
returns-in-len1-up-clause-value c = rw (← c.steps.ensures, ← plain_in_document c.steps.result.now c.step-item.result c.args.doc c.in-len1-up.len_at_least c.step-item.is) c.take_field.ensures.value

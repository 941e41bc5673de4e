use Rattle.std.proofs.Common.{◌∙◌}
use Rattle.query_read.proofs.Fields.{first_sign}
use Rattle.query_read.proofs.parts.has_operator.Goals as goal

pub returns-then-len-ne0 : goal.returns-then-len-ne0
returns-then-len-ne0 c = c.has_sign.ensures ∙ first_sign c.args.doc.now c.name.result.now c.name.ensures

use Rattle.std.proofs.Common.{◌∙◌, ap}
use Rattle.std.specs.Option.{is_some}
use Rattle.query_read.proofs.Fields.{first_test}
use Rattle.query_read.proofs.parts.begins_with_test.Goals as goal

pub returns-then-len-ne0 : goal.returns-then-len-ne0
returns-then-len-ne0 c = c.is_some.ensures ∙ ap (λ o. is_some o) c.operator_named.ensures ∙ first_test c.args.doc.now c.name.result.now c.name.ensures

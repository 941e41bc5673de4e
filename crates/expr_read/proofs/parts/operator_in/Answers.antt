use Rattle.std.proofs.Common.{◌∙◌}
use Rattle.expr_read.proofs.Views.{operator_seen}
use Rattle.expr_read.proofs.parts.operator_in.Goals as goal

pub returns-clause-row : goal.returns-clause-row
returns-clause-row c = c.operator_of.ensures.row ∙ operator_seen c.args.doc.now

use Rattle.std.proofs.Common.{◌∙◌}
use Rattle.expr_read.proofs.Views.{count_seen}
use Rattle.expr_read.proofs.parts.count.Goals as goal

pub returns : goal.returns
returns c = c.len.ensures ∙ count_seen c.args.doc.now

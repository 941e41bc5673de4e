use Rattle.std.proofs.Common.{◌∙◌}
use Rattle.expr_read.proofs.Views.{count_items_seen}
use Rattle.expr_read.proofs.parts.count_items.Goals as goal

pub returns : goal.returns
returns c = c.len.ensures ∙ count_items_seen c.args.list.now

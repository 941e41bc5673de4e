use Rattle.std.proofs.Common.{◌∙◌}
use Rattle.reshape_stage.proofs.Elements.{array_some}
use Rattle.reshape_stage.proofs.unwind.array_stands.Goals as goal

pub returns-else-len-eq0 : goal.returns-else-len-eq0
returns-else-len-eq0 c = array_some c.args.list.now (λ e. c.if-len-eq0.false (c.len.ensures ∙ e))

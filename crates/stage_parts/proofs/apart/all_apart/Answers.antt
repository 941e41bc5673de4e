use Rattle.std.proofs.Common.{◌∙◌}
use Rattle.stage_parts.proofs.StepOrder.{sorted_apart}
use Rattle.stage_parts.proofs.apart.all_apart.Goals as goal

pub returns : goal.returns
returns c = c.are_neighbours_apart.ensures ∙ sorted_apart _ _ c.sort.ensures.permutation c.sort.ensures.sorted

use Rattle.std.proofs.Common.{rules}
use Rattle.std.proofs.lemmas.Fn.{always_returns_same}
use Rattle.stage_parts.proofs.StepOrder.{steps_before}
use Rattle.stage_parts.proofs.apart.sort.Goals as goal

pub returns-clause-sorted : goal.returns-clause-sorted
returns-clause-sorted c = c.sort_unstable_by.ensures.sorted _ steps_before (always_returns_same _ _ _ (λ a r g h. search rules))

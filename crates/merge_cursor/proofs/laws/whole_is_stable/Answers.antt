use Rattle.merge_cursor.proofs.Stable.{stable_order, only_stable_order}
use Rattle.merge_cursor.proofs.laws.whole_is_stable.Goals as goal

pub returns-clause-stable : goal.returns-clause-stable
returns-clause-stable c = stable_order

pub returns-clause-only : goal.returns-clause-only
returns-clause-only c = only_stable_order

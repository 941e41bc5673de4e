use Rattle.stage_laws.proofs.Sorted.{takes_more}
use Rattle.stage_laws.proofs.sorting.sort_takes_more.Goals as goal

pub returns : goal.returns
returns c = takes_more

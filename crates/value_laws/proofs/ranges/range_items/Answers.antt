use Rattle.value_laws.proofs.RangeEnds as law
use Rattle.value_laws.proofs.ranges.range_items.Goals as goal

pub returns-clause-count : goal.returns-clause-count
returns-clause-count c = law.count

pub returns-clause-item : goal.returns-clause-item
returns-clause-item c = law.item

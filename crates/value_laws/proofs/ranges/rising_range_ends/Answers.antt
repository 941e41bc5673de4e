use Rattle.value_laws.proofs.RangeEnds as law
use Rattle.value_laws.proofs.ranges.rising_range_ends.Goals as goal

pub returns-clause-inside : goal.returns-clause-inside
returns-clause-inside c = law.rising_inside

pub returns-clause-outside : goal.returns-clause-outside
returns-clause-outside c = law.rising_outside

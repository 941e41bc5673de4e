use Rattle.value_laws.proofs.RangeEnds as law
use Rattle.value_laws.proofs.ranges.falling_range_ends.Goals as goal

pub returns-clause-inside : goal.returns-clause-inside
returns-clause-inside c = law.falling_inside

pub returns-clause-outside : goal.returns-clause-outside
returns-clause-outside c = law.falling_outside

use Rattle.std.proofs.Common.{length}
use Rattle.expr_read.proofs.row.+find_unit.Given as goal

abbrev pub decreases-find_unit : goal.decreases-find_unit
decreases-find_unit l = length l.units.now

use Rattle.expr_tree.specs.Forms.{operators, units, row_named, unit_named}
use Rattle.expr_read.proofs.row.row_named.Goals as goal

pub returns : goal.returns
unfolding operators units row_named unit_named
returns c = c.find_row.ensures

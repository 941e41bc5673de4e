use Rattle.bson_value.specs.View.{tree_of}
use Rattle.expr_read.proofs.Readings.{found, refused}
use Rattle.expr_read.proofs.read.read_expr.Goals as goal

pub returns-clause-found : goal.returns-clause-found
returns-clause-found c = found (tree_of c.args.value.now) c.read_value.result c.read_value.ensures

pub returns-clause-refused : goal.returns-clause-refused
returns-clause-refused c = refused (tree_of c.args.value.now) c.read_value.result c.read_value.ensures

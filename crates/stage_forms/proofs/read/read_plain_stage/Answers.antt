use Rattle.bson_value.specs.View.{tree_of}
use Rattle.stage_forms.proofs.Readings.{found, refused}
use Rattle.stage_forms.proofs.read.read_plain_stage.Goals as goal

pub returns-clause-found : goal.returns-clause-found
returns-clause-found c = found c.args.number c.args.name.now (tree_of c.args.value.now) c.read_named.result c.read_named.ensures

pub returns-clause-refused : goal.returns-clause-refused
returns-clause-refused c = refused c.args.number c.args.name.now (tree_of c.args.value.now) c.read_named.result c.read_named.ensures

use Rattle.bson_value.specs.View.{tree_of}
use Rattle.join_forms.proofs.Stages.{found, refused}
use Rattle.join_forms.proofs.read.read_joining_stage.Goals as goal

pub returns-clause-found : goal.returns-clause-found
returns-clause-found c = found c.args.name.now (tree_of c.args.value.now) c.read_named.result c.read_named.ensures

pub returns-clause-refused : goal.returns-clause-refused
returns-clause-refused c = refused c.args.name.now (tree_of c.args.value.now) c.read_named.result c.read_named.ensures

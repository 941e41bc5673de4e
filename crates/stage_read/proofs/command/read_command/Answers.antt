use Rattle.stage_read.proofs.Whole.{found, refused}
use Rattle.stage_read.proofs.command.read_command.Goals as goal

pub returns-clause-found : goal.returns-clause-found
returns-clause-found c = found c.args.doc.now c.read_whole.result c.read_whole.ensures

pub returns-clause-refused : goal.returns-clause-refused
returns-clause-refused c = refused c.args.doc.now c.read_whole.result c.read_whole.ensures

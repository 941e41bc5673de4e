use Rattle.bson_value.specs.Tree.{trees_of}
use Rattle.stage_read.proofs.Whole.{parts_some, parts_none}
use Rattle.stage_read.proofs.command.read_whole.Goals as goal

pub returns-in-Some : goal.returns-in-Some
returns-in-Some c = rw (parts_some c.args.doc.now c.in-Some.parts.0.now (trees_of c.in-Some.parts.1.now) c.in-Some.ensures) (c.limited.ensures _ c.read_top.ensures)

pub returns-in-None : goal.returns-in-None
returns-in-None c = rw c.form_at.ensures (parts_none c.args.doc.now c.in-None.ensures)

use Rattle.std.proofs.Common.{sym}
use Rattle.expr_read.proofs.PathTexts.{path_read, path_refused}
use Rattle.query_read.proofs.parts.path_in.Goals as goal

pub returns-in-Ok : goal.returns-in-Ok
returns-in-Ok c = let h = c.in-Ok.ensures in path_read c.args.text.now c.in-Ok.path h.0 (sym h.1)

pub returns-in-Err-Bad : goal.returns-in-Err-Bad
returns-in-Err-Bad c = path_refused c.args.text.now (rw c.in-Err-Bad.field-0-is at c.in-Err-Bad.ensures)

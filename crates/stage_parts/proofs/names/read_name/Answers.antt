use Rattle.stage_parts.proofs.NameTexts.{name_read, name_refused}
use Rattle.stage_parts.proofs.names.read_name.Goals as goal

pub returns-in-Ok : goal.returns-in-Ok
returns-in-Ok c = let h = c.in-Ok.ensures in name_read c.args.name.now c.in-Ok.name h.0 h.1

pub returns-in-Err-NotText : goal.returns-in-Err-NotText
returns-in-Err-NotText c = name_refused c.args.name.now (rw c.in-Err-NotText.field-0-is at c.in-Err-NotText.ensures)

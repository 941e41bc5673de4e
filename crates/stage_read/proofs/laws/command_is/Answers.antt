use Rattle.stage_read.proofs.Whole.{good_is, good_read, bad_is, bad_read}
use Rattle.stage_read.proofs.laws.command_is.Goals as goal

pub returns-clause-good : goal.returns-clause-good
returns-clause-good c fields name ss = (good_is fields name ss, good_read fields name ss)

pub returns-clause-bad : goal.returns-clause-bad
returns-clause-bad c fields b = (bad_is fields b, bad_read fields b)

use Rattle.stage_laws.proofs.Begun.{whole_is, is_whole}
use Rattle.stage_laws.proofs.surveys.whole_records_are.Goals as goal

pub returns : goal.returns
returns c bytes ds fits = (is_whole bytes ds fits, whole_is bytes ds fits)

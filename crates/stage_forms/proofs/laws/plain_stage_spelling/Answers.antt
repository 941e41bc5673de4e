use Rattle.stage_forms.proofs.Sound.{spelled}
use Rattle.stage_forms.proofs.Spelled.{only}
use Rattle.stage_forms.proofs.laws.plain_stage_spelling.Goals as goal

pub returns-clause-found : goal.returns-clause-found
returns-clause-found c number name t s e = spelled number name t s e

pub returns-clause-only : goal.returns-clause-only
returns-clause-only c number name t s h = only number name t s h

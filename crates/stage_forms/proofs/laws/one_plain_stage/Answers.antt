use Rattle.stage_forms.proofs.Spelled.{one}
use Rattle.stage_forms.proofs.laws.one_plain_stage.Goals as goal

pub returns : goal.returns
returns c number name t r s h k = one number name t r s h k

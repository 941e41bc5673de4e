use Rattle.value_laws.proofs.Splits as law
use Rattle.value_laws.proofs.texts.split_at_first_place.Goals as goal

pub returns : goal.returns
returns c = law.first_part

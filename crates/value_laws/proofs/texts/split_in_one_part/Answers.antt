use Rattle.value_laws.proofs.Splits as law
use Rattle.value_laws.proofs.texts.split_in_one_part.Goals as goal

pub returns : goal.returns
returns c = law.last_part

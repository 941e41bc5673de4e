use Rattle.value_laws.proofs.Splits as law
use Rattle.value_laws.proofs.texts.split_parts_lack_separator.Goals as goal

pub returns : goal.returns
returns c = law.parts_lack

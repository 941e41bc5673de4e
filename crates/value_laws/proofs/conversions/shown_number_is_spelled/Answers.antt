use Rattle.value_laws.proofs.Spellings as law
use Rattle.value_laws.proofs.conversions.shown_number_is_spelled.Goals as goal

pub returns : goal.returns
returns c = law.shown

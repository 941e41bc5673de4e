use Rattle.value_laws.proofs.Merges as law
use Rattle.value_laws.proofs.objects.merged_value_is_last.Goals as goal

pub returns : goal.returns
returns c = λ fields more. law.last_value more fields

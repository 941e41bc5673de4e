use Rattle.value_laws.proofs.Merges as law
use Rattle.value_laws.proofs.objects.merged_fields_in_place.Goals as goal

pub returns-clause-kept : goal.returns-clause-kept
returns-clause-kept c = λ fields more. law.kept more fields

pub returns-clause-new : goal.returns-clause-new
returns-clause-new c = law.new

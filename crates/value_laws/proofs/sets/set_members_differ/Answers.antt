use Rattle.value_laws.proofs.Members as law
use Rattle.value_laws.proofs.sets.set_members_differ.Goals as goal

pub returns : goal.returns
returns c = law.differ

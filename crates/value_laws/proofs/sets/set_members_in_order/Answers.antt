use Rattle.value_laws.proofs.Members as law
use Rattle.value_laws.proofs.sets.set_members_in_order.Goals as goal

pub returns-clause-new : goal.returns-clause-new
returns-clause-new c = law.new_last

pub returns-clause-met : goal.returns-clause-met
returns-clause-met c = law.met_before

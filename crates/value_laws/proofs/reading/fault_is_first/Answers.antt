use Rattle.value_laws.proofs.FaultFirst.{first_within, first_steady, first_longer}
use Rattle.value_laws.proofs.reading.fault_is_first.Goals as goal

pub returns-clause-within : goal.returns-clause-within
returns-clause-within c = first_within

pub returns-clause-same : goal.returns-clause-same
returns-clause-same c = first_steady

pub returns-clause-longer : goal.returns-clause-longer
returns-clause-longer c = first_longer

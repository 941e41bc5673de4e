use Rattle.call_laws.proofs.FirstNamed.{held_file, absent_file}
use Rattle.call_laws.proofs.named.files_are.Goals as goal

pub returns-clause-held : goal.returns-clause-held
returns-clause-held c = held_file

pub returns-clause-absent : goal.returns-clause-absent
returns-clause-absent c = absent_file

use Rattle.stage_laws.proofs.Named.{twice_names, names_twice}
use Rattle.stage_laws.proofs.names.twice_named.Goals as goal

pub returns : goal.returns
returns c before row = (twice_names before row, names_twice before row)

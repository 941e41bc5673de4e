use Rattle.chunk_map.proofs.Before.{more_names}
use Rattle.chunk_map.proofs.named.add_name.Goals as goal

pub returns-clause-names : goal.returns-clause-names
returns-clause-names c = more_names tt c.args.name.now c.args.names.now c.insert.new.self c.in_ok-insert.ensures.updates

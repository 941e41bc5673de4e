use Rattle.chunk_map.proofs.Tables.{good_tables, bad_tables}
use Rattle.chunk_map.proofs.laws.cluster_is.Goals as goal

pub returns-clause-good : goal.returns-clause-good
returns-clause-good c cs = good_tables c.args.bytes.now cs

pub returns-clause-bad : goal.returns-clause-bad
returns-clause-bad c b = bad_tables c.args.bytes.now b

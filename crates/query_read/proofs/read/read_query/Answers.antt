use Rattle.std.proofs.Common.{true}
use Rattle.query_read.proofs.Readings.{found, refused}
use Rattle.query_read.proofs.read.read_query.Goals as goal

pub returns-clause-found : goal.returns-clause-found
returns-clause-found c = found true c.args.doc.now c.read_doc.result c.read_doc.ensures

pub returns-clause-refused : goal.returns-clause-refused
returns-clause-refused c = refused true c.args.doc.now c.read_doc.result c.read_doc.ensures

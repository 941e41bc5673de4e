use Rattle.query_read.proofs.Sound.{spelled}
use Rattle.query_read.proofs.Spelled.{read_so}
use Rattle.query_read.proofs.laws.spelling.Goals as goal

pub returns-clause-found : goal.returns-clause-found
returns-clause-found c exprs ps q e = spelled exprs ps q e

pub returns-clause-only : goal.returns-clause-only
returns-clause-only c exprs ps q h = read_so exprs ps q h

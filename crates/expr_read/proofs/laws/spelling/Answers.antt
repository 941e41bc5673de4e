use Rattle.expr_read.proofs.Sound.{spelled}
use Rattle.expr_read.proofs.Spelled.{only}
use Rattle.expr_read.proofs.laws.spelling.Goals as goal

pub returns-clause-found : goal.returns-clause-found
returns-clause-found c names t n e = spelled t names n e

pub returns-clause-only : goal.returns-clause-only
returns-clause-only c names t n h = only n names t h

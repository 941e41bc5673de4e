use Rattle.std.proofs.Common.{◌∙◌, sym}
use Rattle.query_read.proofs.Named.{some_same}
use Rattle.query_read.proofs.Spelled.{read_so}
use Rattle.query_read.proofs.laws.one_query.Goals as goal

pub returns : goal.returns
returns c exprs ps p q h k = some_same p q (sym (read_so exprs ps p h) ∙ read_so exprs ps q k)

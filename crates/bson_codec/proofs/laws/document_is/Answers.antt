use Rattle.std.proofs.Common.{arith}
use Rattle.bson_codec.proofs.Joined.{document_good, document_bad}
use Rattle.bson_codec.proofs.laws.document_is.Goals as goal

pub returns-clause-good : goal.returns-clause-good
returns-clause-good c d = document_good c.args.bytes.now d (λ i. omega (arith, c.type_inv.bytes i))

pub returns-clause-bad : goal.returns-clause-bad
returns-clause-bad c f = document_bad c.args.bytes.now f (λ i. omega (arith, c.type_inv.bytes i))

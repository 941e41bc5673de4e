use Rattle.std.proofs.Common.{arith}
use Rattle.bson_codec.proofs.Joined.{records_good, records_bad}
use Rattle.bson_codec.proofs.laws.records_are.Goals as goal

pub returns-clause-good : goal.returns-clause-good
returns-clause-good c ds = records_good c.args.bytes.now ds (λ i. omega (arith, c.type_inv.bytes i))

pub returns-clause-bad : goal.returns-clause-bad
returns-clause-bad c b = records_bad c.args.bytes.now b (λ i. omega (arith, c.type_inv.bytes i))

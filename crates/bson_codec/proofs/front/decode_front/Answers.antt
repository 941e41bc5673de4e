use Rattle.std.proofs.Common.{arith}
use Rattle.bson_codec.proofs.Fronts.{fails_so, front_fault, front_is, front_size, spelling_some}
use Rattle.bson_codec.proofs.front.decode_front.Goals as goal

pub returns-in-Err-clause-faults : goal.returns-in-Err-clause-faults
returns-in-Err-clause-faults c b e file h = front_fault file c.args.at c.args.front.now b h (fails_so _ _ b c.in-Err.ensures.exact e)

pub returns-in-Ok-clause-found : goal.returns-in-Ok-clause-found
returns-in-Ok-clause-found c file h = front_is file c.args.at c.args.front.now (c.in-Ok.doc, c.in-Ok.after.now) (λ i. omega (arith, c.type_inv.front i)) h c.in-Ok.ensures.exact

pub returns-in-Ok-clause-size : goal.returns-in-Ok-clause-size
returns-in-Ok-clause-size c =
    let size = front_size c.args.at c.args.front.now (c.in-Ok.doc, c.in-Ok.after.now) (λ i. omega (arith, c.type_inv.front i)) c.in-Ok.ensures.exact in
    (omega (arith, size, spelling_some c.in-Ok.doc), omega arith)

use Rattle.std.proofs.Common.{arith}
use Rattle.std.proofs.lemmas.List.{take_rest}
use Rattle.aggregate_command.proofs.Pieces.{sent_more}
use Rattle.aggregate_command.proofs.write.put_all.Goals as goal

pub pieces-preserved : goal.pieces-preserved
pieces-preserved g c = record {
  within = omega (arith, c.in_ok-at.ensures.bound);
  sent = sent_more _ _ _ _ _ _ c.pieces.invariant.sent (rw take_rest at c.in_ok-at.ensures.appended);
  later = omega (arith, c.put.ensures.cause.later);
}

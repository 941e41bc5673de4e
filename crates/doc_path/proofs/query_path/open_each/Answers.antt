use Rattle.std.proofs.Common.{arith}
use Rattle.doc_path.proofs.Queried.{opened-take}
use Rattle.doc_path.proofs.query_path.open_each.Goals as goal

pub loop-i-preserved : goal.loop-i-preserved
loop-i-preserved c = rw (c.in_ok-open.ensures, c.loop-i.invariant) (opened-take c.args.reached.now c.loop-i.i _ (omega arith) c.get.ensures)

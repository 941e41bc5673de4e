use Rattle.std.proofs.Common.{arith}
use Rattle.doc_path.proofs.Queried.{members-take}
use Rattle.doc_path.proofs.query_path.add_members.Goals as goal

pub loop-i-preserved : goal.loop-i-preserved
loop-i-preserved c = rw (c.in_ok-add.ensures.ok, c.loop-i.invariant) (members-take c.args.found.now c.args.list.now c.loop-i.i _ (omega arith) c.value.ensures)

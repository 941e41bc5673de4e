use Rattle.std.proofs.Common.{arith}
use Rattle.bson_codec.proofs.Known.{later_more}
use Rattle.bson_codec.proofs.seen.keep_name.Goals as goal

pub returns-in_ok-insert : goal.returns-in_ok-insert
returns-in_ok-insert c = λ t. later_more tt c.args.name.now t c.args.doc.now c.args.later.now c.insert.new.self (omega arith) c.requires c.in_ok-insert.ensures.updates

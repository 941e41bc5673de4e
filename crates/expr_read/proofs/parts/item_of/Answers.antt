use Rattle.std.proofs.Common.{arith}
use Rattle.bson_value.specs.View.{tree_of}
use Rattle.expr_read.proofs.Views.{got_seen, got_smaller, none_seen}
use Rattle.expr_read.proofs.parts.item_of.Goals as goal

pub returns-then-i-len-clause-seen : goal.returns-then-i-len-clause-seen
returns-then-i-len-clause-seen c = got_seen c.args.list.now c.args.i (tree_of c.value.result.now) c.value.ensures

pub returns-then-i-len-clause-size : goal.returns-then-i-len-clause-size
returns-then-i-len-clause-size c = got_smaller c.args.list.now c.args.i (tree_of c.value.result.now) c.value.ensures

pub returns-else-i-len-clause-seen : goal.returns-else-i-len-clause-seen
returns-else-i-len-clause-seen c = none_seen c.args.list.now c.args.i (omega (arith, c.if-i-len.false, c.len.ensures))

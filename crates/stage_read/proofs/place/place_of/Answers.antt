use Rattle.std.proofs.Common.{arith, ◌+◌}
use Rattle.stage_read.proofs.Sizes.{others_follow, none_follow}
use Rattle.stage_read.proofs.place.place_of.Goals as goal

pub returns-then-i-count : goal.returns-then-i-count
returns-then-i-count c = others_follow c.args.list.now (c.args.i + 1) (omega (arith, c.if-i-count.true, c.len-count.ensures))

pub returns-else-i-count : goal.returns-else-i-count
returns-else-i-count c = none_follow c.args.list.now (c.args.i + 1) (omega (arith, c.if-i-count.false, c.len-count.ensures))

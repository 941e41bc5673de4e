use Rattle.std.proofs.Common.{arith}
use Rattle.value_ops.proofs.Counts.{range_few, range_many}
use Rattle.value_ops.proofs.ranges.range.Goals.{in_default-via-then-args-lt2, in_default-via-else-args-lt2+else-args-lt3+else-args-lt4}
use Rattle.value_ops.proofs.ranges.range.Goals as goal

pub returns-in_default : goal.returns-in_default
returns-in_default c =
    elim c.in_default.branch [
      | in_default-via-then-args-lt2 w ↦ range_few c.args.args.now (grind arith)
      | in_default-via-else-args-lt2+else-args-lt3+else-args-lt4 w ↦ range_many c.args.args.now (grind arith)
    ]

use Rattle.std.proofs.Common.{[], reverse, arith}
use Rattle.bson_value.specs.View.{tree_of}
use Rattle.value_sets.proofs.Held.{taken_more, reversed_at}
use Rattle.value_ops.proofs.arrays.reversed.Goals as goal

pub loop-i-preserved : goal.loop-i-preserved
loop-i-preserved c =
    taken_more [] c.loop-i.items (reverse c.args.list.now) _ c.loop-i.i (tree_of c.value.result.now) c.loop-i.invariant
    (reversed_at c.args.list.now c.loop-i.i (tree_of c.value.result.now) (omega arith) (rw c.len.ensures at c.value.ensures)) (rw c.in_ok-copy.ensures at c.in_ok-add.ensures.ok)

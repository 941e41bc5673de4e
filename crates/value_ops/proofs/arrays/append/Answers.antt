use Rattle.bson_value.specs.View.{tree_of}
use Rattle.value_sets.proofs.Held.{taken_more}
use Rattle.value_ops.proofs.arrays.append.Goals as goal

pub loop-i-preserved : goal.loop-i-preserved
loop-i-preserved c =
    taken_more c.args.joined c.loop-i.joined c.args.list.now _ c.loop-i.i (tree_of c.value.result.now) c.loop-i.invariant c.value.ensures (rw c.in_ok-copy.ensures at c.in_ok-add.ensures.ok)

use Rattle.std.proofs.Common.{sym, ◌∙◌, arith}
use Rattle.bson_value.specs.View.{tree_of}
use Rattle.value_sets.proofs.Held.{part_more, part_done}
use Rattle.value_ops.proofs.arrays.part.Goals as goal

pub loop-i-preserved : goal.loop-i-preserved
loop-i-preserved c =
    part_more c.loop-i.items c.args.list.now _ c.loop-i.i c.args.to (tree_of c.value.result.now) (omega arith) c.value.ensures (rw c.in_ok-copy.ensures at c.in_ok-add.ensures.ok) ∙ c.loop-i.invariant

pub returns : goal.returns
returns c = sym (part_done c.loop-i.items c.args.list.now c.loop-i.i c.args.to (omega arith)) ∙ c.loop-i.invariant

use Rattle.std.proofs.Common.{◌∙◌, sym, arith}
use Rattle.bson_value.specs.Order.{order}
use Rattle.chunk_map.proofs.Listed.{order_step, order_ended, decides, equal_goes_on}
use Rattle.chunk_map.proofs.ranges.compare_keys.Goals as goal

pub returns-in_default : goal.returns-in_default
returns-in_default c =
    c.compare.ensures ∙ sym (c.loop-i.invariant ∙ order_step order c.args.a.now c.args.b.now c.loop-i.i _ _ c.value.ensures c.value-in-loop-i.ensures ∙ decides _ _ _ c.compare.ensures c.in_default.not-Equal)

pub loop-i-preserved : goal.loop-i-preserved
loop-i-preserved c =
    c.loop-i.invariant ∙ order_step order c.args.a.now c.args.b.now c.loop-i.i _ _ c.value.ensures c.value-in-loop-i.ensures ∙ equal_goes_on _ _ _ c.compare.ensures c.in-Equal.is

pub returns : goal.returns
returns c =
    rw (c.cmp.ensures, c.len-3.ensures, c.len-4.ensures) (order_ended order c.args.a.now c.args.b.now c.loop-i.i (omega (arith, c.len.ensures, c.len-2.ensures, c.min-i-end.ensures)) ∙ sym c.loop-i.invariant)

use Rattle.std.proofs.Common.{◌∙◌, sym}
use Rattle.chunk_map.proofs.Listed.{test_step, test_fails, class_is, class_differs}
use Rattle.chunk_map.proofs.ranges.have_class.Goals as goal

pub returns-then-class_of-number : goal.returns-then-class_of-number
returns-then-class_of-number c =
    sym (c.loop-i.invariant ∙ test_fails _ c.args.key.now c.loop-i.i _ c.value.ensures (class_differs _ _ _ c.class_of.ensures c.if-class_of-number.true))

pub loop-i-preserved : goal.loop-i-preserved
loop-i-preserved c =
    c.loop-i.invariant ∙ test_step _ c.args.key.now c.loop-i.i _ c.value.ensures (class_is _ _ _ c.class_of.ensures c.if-class_of-number.false)

use Rattle.std.proofs.Common.{◌∙◌}
use Rattle.chunk_map.proofs.Listed.{values_step}
use Rattle.chunk_map.proofs.key_form.copy_values.Goals as goal

pub loop-i-preserved : goal.loop-i-preserved
loop-i-preserved c = rw (c.in_ok-add.ensures.ok, c.in_ok-copy.ensures) (c.loop-i.invariant ∙ values_step c.args.doc.now c.loop-i.i _ c.loop-i.values c.value.ensures)

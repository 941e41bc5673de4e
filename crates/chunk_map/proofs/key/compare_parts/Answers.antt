use Rattle.std.proofs.Common.{◌∙◌, map, sym, arith}
use Rattle.std.proofs.lemmas.List.{length-map}
use Rattle.bson_value.specs.Order.{order}
use Rattle.chunk_map.specs.KeyParts.{part_of}
use Rattle.chunk_map.proofs.Listed.{order_step, order_ended, decides, equal_goes_on, mapped_item}
use Rattle.chunk_map.proofs.key.compare_parts.Goals as goal

pub returns-in_default : goal.returns-in_default
returns-in_default c =
    let at = mapped_item part_of c.args.parts.now c.loop-i.i _ (omega arith) c.index-parts-i.is in
    c.compare_part.ensures ∙ sym (c.loop-i.invariant ∙ order_step order (map part_of c.args.parts.now) c.args.bound.now c.loop-i.i _ _ at c.value.ensures ∙ decides _ _ _ c.compare_part.ensures c.in_default.not-Equal)

pub loop-i-preserved : goal.loop-i-preserved
loop-i-preserved c =
    let at = mapped_item part_of c.args.parts.now c.loop-i.i _ (omega arith) c.index-parts-i.is in
    c.loop-i.invariant ∙ order_step order (map part_of c.args.parts.now) c.args.bound.now c.loop-i.i _ _ at c.value.ensures ∙ equal_goes_on _ _ _ c.compare_part.ensures c.in-Equal.is

pub returns : goal.returns
returns c =
    let m = length-map c.args.parts.now part_of in
    rw (c.cmp.ensures, c.len-2.ensures, ← m) (order_ended order (map part_of c.args.parts.now) c.args.bound.now c.loop-i.i (omega (arith, m, c.len.ensures, c.min-i-end.ensures)) ∙ sym c.loop-i.invariant)

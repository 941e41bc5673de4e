use Rattle.std.proofs.Common.{◌++◌, map, ap, sym, ◌∙◌}
use Rattle.value_ops.proofs.Parts.{shown, next_part, rest_is_text, last_part}
use Rattle.value_ops.proofs.texts.parts.Goals as goal

pub loop-part-preserved : goal.loop-part-preserved
loop-part-preserved c = (
  rest_is_text c.args.separator.now c.loop-part.rest.now c.in-Some.part.now c.in-Some.after.now c.loop-part.invariant.0 c.in-Some.ensures.cases,
  rw (c.in_ok-add.ensures.ok, c.in_ok-text_of.ensures) (next_part c.args.separator.now c.loop-part.rest.now c.in-Some.part.now c.in-Some.after.now c.loop-part.list c.requires c.in-Some.ensures.cases ∙ c.loop-part.invariant.1),
)

pub returns : goal.returns
returns c =
    rw (c.in_ok-add-2.ensures.ok, c.in_ok-text_of-2.ensures) (ap (λ ps. c.loop-part.list ++ map shown ps) (sym (last_part c.args.separator.now c.loop-part.rest.now c.in_default.ensures.cases)) ∙ c.loop-part.invariant.1)

use Rattle.std.proofs.Common.{◌∙◌, sym}
use Rattle.chunk_map.proofs.Listed.{names_step, names_differ, unnot, unnot_false, false_and, true_and}
use Rattle.chunk_map.proofs.key_form.same_names.Goals as goal

pub returns-then-len : goal.returns-then-len
returns-then-len c = sym (names_differ c.args.key.now c.args.doc.now (λ h. c.if-len.true (c.len.ensures ∙ h ∙ sym c.len-2.ensures)))

pub returns-then-ne : goal.returns-then-ne
returns-then-ne c =
    sym (c.loop-i.invariant ∙ names_step c.args.key.now c.args.doc.now c.loop-i.i _ _ c.name.ensures c.name-in-loop-i.ensures ∙ false_and _ _ (unnot _ _ c.ne.ensures c.if-ne.true))

pub loop-i-preserved : goal.loop-i-preserved
loop-i-preserved c =
    c.loop-i.invariant ∙ names_step c.args.key.now c.args.doc.now c.loop-i.i _ _ c.name.ensures c.name-in-loop-i.ensures ∙ true_and _ _ (unnot_false _ _ c.ne.ensures c.if-ne.false)

use Rattle.std.proofs.Common.{◌∙◌, sym}
use Rattle.std.proofs.lemmas.Result.{err_from_is_err_and}
use Rattle.bson_value.specs.View.{tree_of}
use Rattle.join_forms.specs.Views.{parts_of}
use Rattle.join_forms.proofs.Turns.{parts_behind, named_field, id_skipped, part_fails, part_goes}
use Rattle.join_forms.proofs.group.read_parts.Goals as goal
use Rattle.stage_parts.proofs.Each.{field_at}

pub loop-i-preserved-then-is_id : goal.loop-i-preserved-then-is_id
loop-i-preserved-then-is_id c =
    let f = named_field c.args.doc.now c.loop-i.i c.name-name.result.now c.name-name.ensures in
    id_skipped c.args.doc.now c.loop-i.i c.name-name.result.now f.0 f.1 (parts_of c.loop-i.parts) _ c.loop-i.invariant (sym c.is_id.ensures ∙ c.if-is_id.true)

pub returns-in_err-part : goal.returns-in_err-part
returns-in_err-part c =
    let p = err_from_is_err_and c.from_residual.result c.from_residual.ensures.1 in rw (p.1, p.2)
    (part_fails c.args.doc.now c.loop-i.i c.name-name.result.now (tree_of c.value.result.now) (field_at c.args.doc.now c.loop-i.i c.name-name.result.now (tree_of c.value.result.now) c.name-name.ensures c.value.ensures) (parts_of c.loop-i.parts) _ c.loop-i.invariant (sym c.is_id.ensures ∙ c.if-is_id.false) _ c.in_err-part.ensures)

pub loop-i-preserved : goal.loop-i-preserved
loop-i-preserved c =
    rw (c.in_ok-add.ensures.ok, parts_behind c.loop-i.parts c.in_ok-part.part)
    (part_goes c.args.doc.now c.loop-i.i c.name-name.result.now (tree_of c.value.result.now) (field_at c.args.doc.now c.loop-i.i c.name-name.result.now (tree_of c.value.result.now) c.name-name.ensures c.value.ensures) (parts_of c.loop-i.parts) _ c.loop-i.invariant (sym c.is_id.ensures ∙ c.if-is_id.false) _ c.in_ok-part.ensures)

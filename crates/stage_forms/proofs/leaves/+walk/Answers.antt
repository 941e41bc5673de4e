use Rattle.std.proofs.Common.{sym, arith}
use Rattle.std.proofs.lemmas.Result.{err_from_is_err_and}
use Rattle.bson_value.specs.View.{tree_of}
use Rattle.expr_read.proofs.Steps.{field_size}
use Rattle.stage_parts.proofs.Each.{field_at}
use Rattle.stage_forms.specs.Views.{leaves_in}
use Rattle.stage_forms.proofs.Walk.{flat_nested, walk_fails, walk_goes}
use Rattle.stage_forms.proofs.leaves.+walk.Goals as goal

pub read_fields-read_value-requires : goal.read_fields-read_value-requires
read_fields-read_value-requires t c = (omega (arith, c.decreases, field_size c.args.doc.now c.loop-i.i (tree_of c.value-value.result.now) c.value-value.ensures), tt)

pub read_fields-returns-in_err-found : goal.read_fields-returns-in_err-found
read_fields-returns-in_err-found t c =
    let p = err_from_is_err_and c.from_residual-in_err-found.result c.from_residual-in_err-found.ensures.1 in rw (p.1, p.2)
    (walk_fails c.args.front.now c.args.doc.now c.loop-i.i c.name-name.result.now (tree_of c.value-value.result.now) (field_at c.args.doc.now c.loop-i.i c.name-name.result.now (tree_of c.value-value.result.now) c.name-name.ensures c.value-value.ensures) (leaves_in c.loop-i.found.items) _ c.loop-i.invariant _ (rw c.in_ok-text.ensures at c.in_err-found.ensures))

pub read_fields-loop-i-preserved : goal.read_fields-loop-i-preserved
read_fields-loop-i-preserved t c =
    walk_goes c.args.front.now c.args.doc.now c.loop-i.i c.name-name.result.now (tree_of c.value-value.result.now) (field_at c.args.doc.now c.loop-i.i c.name-name.result.now (tree_of c.value-value.result.now) c.name-name.ensures c.value-value.ensures) (leaves_in c.loop-i.found.items) _ c.loop-i.invariant (leaves_in c.in_ok-found.found.items) (rw c.in_ok-text.ensures at c.in_ok-found.ensures)

pub read_value-returns-in-Some : goal.read_value-returns-in-Some
read_value-returns-in-Some t c = rw (flat_nested c.args.text (tree_of c.args.value.now) c.in-Some.doc.now (sym c.in-Some.ensures.fields)) c.read_nested.ensures

use Rattle.std.proofs.lemmas.Result.{err_from_is_err_and}
use Rattle.bson_value.specs.View.{tree_of}
use Rattle.join_forms.specs.Reading.{output}
use Rattle.join_forms.specs.Views.{outputs_of}
use Rattle.join_forms.proofs.Turns.{outputs_behind}
use Rattle.join_forms.proofs.window.read_each_output.Goals as goal
use Rattle.stage_parts.proofs.Each.{field_at, each_fails, each_goes}

pub returns-in_err-output : goal.returns-in_err-output
returns-in_err-output c =
    let p = err_from_is_err_and c.from_residual.result c.from_residual.ensures.1 in rw (p.1, p.2)
    (each_fails (output c.args.sorted) c.args.doc.now c.loop-i.i (c.name-name.result.now, tree_of c.value-value.result.now) (field_at c.args.doc.now c.loop-i.i c.name-name.result.now (tree_of c.value-value.result.now) c.name-name.ensures c.value-value.ensures) (outputs_of c.loop-i.outputs) _ c.loop-i.invariant _ c.in_err-output.ensures)

pub loop-i-preserved : goal.loop-i-preserved
loop-i-preserved c =
    rw (c.in_ok-add.ensures.ok, outputs_behind c.loop-i.outputs c.in_ok-output.output)
    (each_goes (output c.args.sorted) c.args.doc.now c.loop-i.i (c.name-name.result.now, tree_of c.value-value.result.now) (field_at c.args.doc.now c.loop-i.i c.name-name.result.now (tree_of c.value-value.result.now) c.name-name.ensures c.value-value.ensures) (outputs_of c.loop-i.outputs) _ c.loop-i.invariant _ c.in_ok-output.ensures)

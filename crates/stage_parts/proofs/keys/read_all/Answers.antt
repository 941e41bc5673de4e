use Rattle.std.proofs.lemmas.Result.{err_from_is_err_and}
use Rattle.bson_value.specs.View.{tree_of}
use Rattle.stage_parts.specs.Keys.{sort_key}
use Rattle.stage_parts.proofs.Each.{field_at, each_fails, each_goes}
use Rattle.stage_parts.proofs.keys.read_all.Goals as goal

pub returns-in_err-key : goal.returns-in_err-key
returns-in_err-key c =
    let p = err_from_is_err_and c.from_residual.result c.from_residual.ensures.1 in rw (p.1, p.2)
    (each_fails sort_key c.args.doc.now c.loop-i.i (c.name-name.result.now, tree_of c.value-value.result.now) (field_at c.args.doc.now c.loop-i.i c.name-name.result.now (tree_of c.value-value.result.now) c.name-name.ensures c.value-value.ensures) c.loop-i.keys _ c.loop-i.invariant _ c.in_err-key.ensures)

pub loop-i-preserved : goal.loop-i-preserved
loop-i-preserved c =
    rw c.in_ok-add.ensures.ok
    (each_goes sort_key c.args.doc.now c.loop-i.i (c.name-name.result.now, tree_of c.value-value.result.now) (field_at c.args.doc.now c.loop-i.i c.name-name.result.now (tree_of c.value-value.result.now) c.name-name.ensures c.value-value.ensures) c.loop-i.keys _ c.loop-i.invariant _ c.in_ok-key.ensures)

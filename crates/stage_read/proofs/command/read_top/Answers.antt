use Rattle.std.proofs.lemmas.Result.{err_from_is_err_and}
use Rattle.bson_value.specs.View.{tree_of}
use Rattle.stage_read.proofs.Tops.{top_fails, top_goes}
use Rattle.stage_read.proofs.command.read_top.Goals as goal

pub returns-in_err-stage : goal.returns-in_err-stage
returns-in_err-stage c =
    let p = err_from_is_err_and c.from_residual-in_err-stage.result c.from_residual-in_err-stage.ensures.1 in rw (p.1, p.2)
    (top_fails c.args.list.now c.loop-i.i (tree_of c.value.result.now) c.value.ensures c.loop-i.pipeline _ c.loop-i.invariant _ (rw c.place_of-place.ensures at (c.in_err-stage.ensures _ c.read_stage.ensures)))

pub loop-i-preserved : goal.loop-i-preserved
loop-i-preserved c =
    rw (c.in_ok-add.ensures.ok, c.new.ensures, c.in_ok-origins.ensures)
    (top_goes c.args.list.now c.loop-i.i (tree_of c.value.result.now) c.value.ensures c.loop-i.pipeline _ c.loop-i.invariant _ (rw c.place_of-place.ensures at (c.in_ok-stage.ensures _ c.read_stage.ensures)))

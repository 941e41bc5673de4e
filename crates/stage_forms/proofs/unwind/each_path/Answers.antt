use Rattle.std.proofs.lemmas.Result.{err_from_is_err_and}
use Rattle.bson_value.specs.View.{tree_of}
use Rattle.stage_parts.specs.Paths.{path_text}
use Rattle.stage_parts.proofs.Each.{each_fails, each_goes}
use Rattle.stage_forms.proofs.unwind.each_path.Goals as goal

pub returns-in_err-path : goal.returns-in_err-path
returns-in_err-path c =
    let p = err_from_is_err_and c.from_residual.result c.from_residual.ensures.1 in rw (p.1, p.2)
    (each_fails path_text c.args.list.now c.loop-i.i (tree_of c.value.result.now) c.value.ensures c.loop-i.paths _ c.loop-i.invariant _ c.in_err-path.ensures)

pub loop-i-preserved : goal.loop-i-preserved
loop-i-preserved c = rw c.in_ok-add.ensures.ok (each_goes path_text c.args.list.now c.loop-i.i (tree_of c.value.result.now) c.value.ensures c.loop-i.paths _ c.loop-i.invariant _ c.in_ok-path.ensures)

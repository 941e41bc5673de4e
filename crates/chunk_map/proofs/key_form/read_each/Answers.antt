use Rattle.std.proofs.Common.{◌<◌, length, ◌∙◌, sym, arith}
use Rattle.chunk_map.specs.Form.{path_in}
use Rattle.chunk_map.proofs.Listed.{all_step, all_none}
use Rattle.chunk_map.proofs.key_form.read_each.Goals as goal

pub returns-in_default : goal.returns-in_default
returns-in_default c =
    let lt : c.loop-i.i < length c.args.key.now = omega arith in
    sym (c.loop-i.invariant ∙ all_none path_in c.args.key.now c.loop-i.i c.loop-i.paths.items lt (sym c.in_ok-path.ensures ∙ c.in_default.is))

pub loop-i-preserved : goal.loop-i-preserved
loop-i-preserved c =
    let lt : c.loop-i.i < length c.args.key.now = omega arith in
    rw c.in_ok-push.ensures.items (c.loop-i.invariant ∙ all_step path_in c.args.key.now c.loop-i.i _ c.loop-i.paths.items lt (sym c.in_ok-path.ensures ∙ c.in-Some.is))

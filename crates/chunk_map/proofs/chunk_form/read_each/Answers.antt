use Rattle.std.proofs.Common.{◌<◌, length, ◌∙◌, sym, ap, arith}
use Rattle.std.specs.Prelude.{option_and_then}
use Rattle.chunk_map.specs.Form.{chunk_of}
use Rattle.chunk_map.proofs.Listed.{all_step, all_none}
use Rattle.chunk_map.proofs.chunk_form.read_each.Goals as goal

pub returns-in_default : goal.returns-in_default
returns-in_default c =
    let lt : c.loop-i.i < length c.args.list.now = omega arith in
    let f = chunk_of c.args.key.now c.args.shards.now in
    sym (c.loop-i.invariant ∙ all_none f c.args.list.now c.loop-i.i c.loop-i.chunks.items lt (ap (option_and_then f) c.value.ensures ∙ sym c.in_ok-chunk.ensures ∙ c.in_default.is))

pub loop-i-preserved : goal.loop-i-preserved
loop-i-preserved c =
    let lt : c.loop-i.i < length c.args.list.now = omega arith in
    let f = chunk_of c.args.key.now c.args.shards.now in
    rw c.in_ok-push.ensures.items
    (c.loop-i.invariant ∙ all_step f c.args.list.now c.loop-i.i _ c.loop-i.chunks.items lt (ap (option_and_then f) c.value.ensures ∙ sym c.in_ok-chunk.ensures ∙ c.in-Some.is))

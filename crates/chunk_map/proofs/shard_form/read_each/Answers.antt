use Rattle.std.proofs.Common.{◌<◌, length, ◌∙◌, sym, ap, arith}
use Rattle.std.specs.Prelude.{Some, option_and_then}
use Rattle.chunk_map.specs.Form.{shard_of}
use Rattle.chunk_map.specs.Table.{ShardRow}
use Rattle.chunk_map.proofs.Listed.{all_step, all_none}
use Rattle.chunk_map.proofs.shard_form.read_each.Goals as goal

pub returns-in_default : goal.returns-in_default
returns-in_default c =
    let lt : c.loop-i.i < length c.args.list.now = omega arith in
    sym (c.loop-i.invariant ∙ all_none shard_of c.args.list.now c.loop-i.i c.loop-i.shards.items lt (ap (option_and_then shard_of) c.value.ensures ∙ sym c.in_default.ensures))

pub loop-i-preserved : goal.loop-i-preserved
loop-i-preserved c =
    let lt : c.loop-i.i < length c.args.list.now = omega arith in
    let made = ap (λ (s : ShardRow). Some s) (sym c.in_ok-make_shard.ensures) in
    rw c.in_ok-push.ensures.items
    (c.loop-i.invariant ∙ all_step shard_of c.args.list.now c.loop-i.i _ c.loop-i.shards.items lt (ap (option_and_then shard_of) c.value.ensures ∙ sym c.in-Some.ensures ∙ made))

use Rattle.std.proofs.Common.{◌∙◌, sym}
use Rattle.chunk_map.proofs.Faults.{range_fault, no_fault, all_checked}
use Rattle.chunk_map.proofs.ranges.chunks_fault.Goals as goal

pub returns-then-not-follows : goal.returns-then-not-follows
returns-then-not-follows c =
    sym (c.loop-i.invariant ∙ range_fault c.args.shards _ _ c.args.chunks.now c.loop-i.i c.index-chunks-i.result c.loop-i-test.true c.index-chunks-i.is (sym c.follows.ensures ∙ c.if-not-follows.true))

pub loop-i-preserved : goal.loop-i-preserved
loop-i-preserved c =
    rw (c.max.ensures)
    (c.loop-i.invariant ∙ no_fault c.args.shards _ _ c.args.chunks.now c.loop-i.i c.index-chunks-i.result c.loop-i-test.true c.index-chunks-i.is (sym c.follows.ensures ∙ c.if-not-follows.false) (rw (← c.shard.ensures) c.if-shard-shards.false))

pub returns : goal.returns
returns c = sym (c.loop-i.invariant ∙ all_checked c.args.shards _ _ c.args.chunks.now c.loop-i.i c.loop-i-test.false)

use Rattle.std.proofs.Common.{◌∙◌, ◌+◌, take, sym}
use Rattle.chunk_map.proofs.Rows.{take_item, checked_step, checked_refuse, checked_done}
use Rattle.chunk_map.proofs.read.check_rows.Goals as goal

pub returns-in-Ok-Some : goal.returns-in-Ok-Some
returns-in-Ok-Some c =
    let f = sym (c.in-Ok-Some.ensures.fault (take c.loop-i.i c.args.rows.now) c.loop-i.invariant.seen) ∙ c.in-Ok-Some.field-0-is in
    rw (c.refuse.ensures, c.loop-i.invariant.checked) (checked_refuse (c.loop-i.i + 1) c.args.rows.now c.loop-i.i c.index-rows-i.result c.loop-i-test.true c.index-rows-i.is (c.in-Ok-Some.chunk, c.in-Ok-Some.why) f)

pub loop-i-preserved : goal.loop-i-preserved
loop-i-preserved c =
    let f = sym (c.in-Ok-None.ensures.fault (take c.loop-i.i c.args.rows.now) c.loop-i.invariant.seen) ∙ c.in-Ok-None.field-0-is in
    record {
      checked = c.loop-i.invariant.checked ∙ checked_step (c.loop-i.i + 1) c.args.rows.now c.loop-i.i c.index-rows-i.result c.loop-i-test.true c.index-rows-i.is f;
      seen = rw (take_item c.args.rows.now c.loop-i.i c.index-rows-i.result c.loop-i-test.true c.index-rows-i.is) (c.in-Ok-None.ensures.seen (take c.loop-i.i c.args.rows.now) c.loop-i.invariant.seen c.in-Ok-None.field-0-is);
    }

pub returns : goal.returns
returns c = c.loop-i.invariant.checked ∙ checked_done (c.loop-i.i + 1) c.args.rows.now c.loop-i.i c.loop-i-test.false

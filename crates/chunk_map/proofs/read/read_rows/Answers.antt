use Rattle.std.proofs.Common.{◌+◌, ◌≤◌, ◌∙◌, length, arith}
use Rattle.chunk_map.proofs.Rows.{rows_step, rows_refuse, rows_done}
use Rattle.chunk_map.proofs.read.read_rows.Goals as goal

pub returns-in-Err-clause-table : goal.returns-in-Err-clause-table
returns-in-Err-clause-table c =
    rw c.loop-i.invariant.table (rows_refuse (c.loop-i.i + 1) c.loop-i.i c.loop-i.rows.items c.args.list.now _ c.in-Err.e c.value.ensures c.in-Err.ensures.refused)

pub loop-i-preserved : goal.loop-i-preserved
loop-i-preserved c = record {
  table = rw c.in_ok-keep.ensures.items (c.loop-i.invariant.table ∙ rows_step (c.loop-i.i + 1) c.loop-i.i c.loop-i.rows.items c.args.list.now _ c.in-Ok.row c.value.ensures c.in-Ok.ensures.ok);
  few = omega (arith, c.in_ok-keep.ensures.len);
}

pub returns-clause-table : goal.returns-clause-table
returns-clause-table c =
    let le : length c.args.list.now ≤ c.loop-i.i = omega arith in
    c.loop-i.invariant.table ∙ rows_done (c.loop-i.i + 1) c.loop-i.i c.loop-i.rows.items c.args.list.now le

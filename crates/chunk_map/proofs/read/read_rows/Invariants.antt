use Rattle.std.proofs.Common.{◌≡◌, ◌+◌, ◌≤◌, [], drop, vec_len}
use Rattle.chunk_map.specs.Form.{rows}
use Rattle.chunk_map.proofs.read.read_rows.Given as goal

abbrev pub invariant-loop-i : goal.invariant-loop-i
invariant-loop-i l = record {
  table : rows 1 [] l.list ≡ rows (l.i + 1) l.rows.items (drop l.i l.list);
  few : vec_len l.rows ≤ l.i;
}

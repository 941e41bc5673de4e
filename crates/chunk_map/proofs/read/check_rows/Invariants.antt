use Rattle.std.proofs.Common.{◌≡◌, ◌+◌, [], take, drop}
use Rattle.chunk_map.specs.Form.{checked}
use Rattle.chunk_map.specs.Named.{HasSeen}
use Rattle.chunk_map.proofs.read.check_rows.Given as goal

abbrev pub invariant-loop-i : goal.invariant-loop-i
invariant-loop-i l = record {
  checked : checked 1 [] l.rows ≡ checked (l.i + 1) (take l.i l.rows) (drop l.i l.rows);
  seen : HasSeen l.seen (take l.i l.rows);
}

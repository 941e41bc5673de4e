use Rattle.std.proofs.Common.{◌≡◌, ◌+◌, drop}
use Rattle.std.specs.Prelude.{None, option_map}
use Rattle.chunk_map.specs.Form.{chunks_fault}
use Rattle.chunk_map.proofs.ranges.chunks_fault.Given as goal

abbrev pub invariant-loop-i : goal.invariant-loop-i
invariant-loop-i l = chunks_fault l.shards 1 None l.chunks ≡ chunks_fault l.shards (l.i + 1) (option_map (λ r. r.now) l.ended) (drop l.i l.chunks)

use Rattle.std.proofs.Common.{◌≡◌, drop}
use Rattle.chunk_map.specs.Form.{all_of, chunk_of}
use Rattle.chunk_map.proofs.Listed.{with_front}
use Rattle.chunk_map.proofs.chunk_form.read_each.Given as goal

abbrev pub invariant-loop-i : goal.invariant-loop-i
invariant-loop-i l = all_of (chunk_of l.key l.shards) l.list ≡ with_front l.chunks.items (all_of (chunk_of l.key l.shards) (drop l.i l.list))

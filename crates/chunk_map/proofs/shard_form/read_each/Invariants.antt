use Rattle.std.proofs.Common.{◌≡◌, drop}
use Rattle.chunk_map.specs.Form.{all_of, shard_of}
use Rattle.chunk_map.proofs.Listed.{with_front}
use Rattle.chunk_map.proofs.shard_form.read_each.Given as goal

abbrev pub invariant-loop-i : goal.invariant-loop-i
invariant-loop-i l = all_of shard_of l.list ≡ with_front l.shards.items (all_of shard_of (drop l.i l.list))

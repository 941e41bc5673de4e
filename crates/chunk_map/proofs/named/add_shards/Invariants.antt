use Rattle.std.proofs.Common.{◌≡◌, [], take, drop}
use Rattle.chunk_map.specs.Form.{has_shard_twice}
use Rattle.chunk_map.specs.Named.{HasFiles, HasShards}
use Rattle.chunk_map.specs.Table.{Table}
use Rattle.chunk_map.proofs.named.add_shards.Given as goal

abbrev pub invariant-loop-shard : goal.invariant-loop-shard
invariant-loop-shard l = record {
  names : HasShards l.names (take l.shard-index l.shards);
  files : (before : Table) → HasFiles l.initial.files before [] → HasFiles l.files before (take l.shard-index l.shards);
  twice : (before : Table) → HasFiles l.initial.files before [] → has_shard_twice before [] l.shards ≡ has_shard_twice before (take l.shard-index l.shards) (drop l.shard-index l.shards);
}

use Rattle.std.proofs.Common.{length, sym, ap, ◌∙◌, rules, arith}
use Rattle.std.specs.Prelude.{ℕ, Some}
use Rattle.std.proofs.lemmas.List.Sorted.{IsPartitionPoint-from_clause}
use Rattle.chunk_map.proofs.KeyOrder.{is_past, sharded_of, found_shards}
use Rattle.chunk_map.proofs.Listed.{item_at}
use Rattle.chunk_map.proofs.Orders.{cut_from}
use Rattle.chunk_map.proofs.collection.Collection.shard_of.Goals as goal

pub returns-clause-shard : goal.returns-clause-shard
returns-clause-shard c =
    let at = item_at c.chunks-chunks.result.now c.min.result c.index-chunks-min.result (omega (arith, c.min.ensures, c.chunks-chunks.ensures, ap length c.chunks-chunks.ensures, (sharded_of c.args.self.now c.known.ensures c.requires.sharded).some_chunks)) c.index-chunks-min.is in
    let found =
    found_shards c.args.self.now c.args.key.now c.chunks-chunks.result.now c.partition_point-place.result c.min.result c.index-chunks-min.result c.known.ensures c.requires.sharded c.requires.parts (sym c.chunks-chunks.ensures)
    (λ parted. cut_from (is_past c.args.key.now) c.chunks-chunks.result.now c.partition_point-place.result (IsPartitionPoint-from_clause (is_past c.args.key.now) c.chunks-chunks.result.now c.partition_point-place.result c.partition_point-place.ensures.partitioned parted (λ a r q k. search rules)))
    c.min.ensures at in
    found.0 ∙ ap (λ (k : ℕ). Some k) (sym c.shard.ensures)

pub returns-clause-within : goal.returns-clause-within
returns-clause-within c =
    let at = item_at c.chunks-chunks.result.now c.min.result c.index-chunks-min.result (omega (arith, c.min.ensures, c.chunks-chunks.ensures, ap length c.chunks-chunks.ensures, (sharded_of c.args.self.now c.known.ensures c.requires.sharded).some_chunks)) c.index-chunks-min.is in
    let found =
    found_shards c.args.self.now c.args.key.now c.chunks-chunks.result.now c.partition_point-place.result c.min.result c.index-chunks-min.result c.known.ensures c.requires.sharded c.requires.parts (sym c.chunks-chunks.ensures)
    (λ parted. cut_from (is_past c.args.key.now) c.chunks-chunks.result.now c.partition_point-place.result (IsPartitionPoint-from_clause (is_past c.args.key.now) c.chunks-chunks.result.now c.partition_point-place.result c.partition_point-place.ensures.partitioned parted (λ a r q k. search rules)))
    c.min.ensures at in
    rw c.shard.ensures found.1

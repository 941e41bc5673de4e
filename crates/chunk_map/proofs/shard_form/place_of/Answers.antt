use Rattle.std.proofs.Common.{◌≡◌, true, false, sym, subst, ◌∙◌, rules}
use Rattle.std.specs.Str.{bytes_eq}
use Rattle.std.proofs.lemmas.List.Sorted.{IsPartitionPoint-from_clause}
use Rattle.chunk_map.specs.Table.{ShardRow}
use Rattle.chunk_map.proofs.InOrder.{is_below, names_parted, place_found, place_none, rising_from}
use Rattle.chunk_map.proofs.Listed.{some_is, item_at, no_item}
use Rattle.chunk_map.proofs.Orders.{cut_from}
use Rattle.chunk_map.proofs.shard_form.place_of.Goals as goal
use Rattle.chunk_map.proofs.shard_form.place_of.Goals.{else-place-shards-via-then-place-shards+else-eq, else-place-shards-via-else-place-shards}

pub returns-then-eq : goal.returns-then-eq
returns-then-eq c =
    let point = IsPartitionPoint-from_clause (is_below c.args.name.now) c.args.shards.now c.partition_point-place.result c.partition_point-place.ensures.partitioned (names_parted c.args.name.now c.args.shards.now c.requires) (λ a r q k. search rules) in
    let cut = cut_from (is_below c.args.name.now) c.args.shards.now c.partition_point-place.result point in
    let at = item_at c.args.shards.now c.partition_point-place.result c.index-shards-place.result c.if-place-shards.true c.index-shards-place.is in
    let same : bytes_eq c.index-shards-place.result.name c.args.name.now ≡ true = rw (← c.name.ensures, ← c.bytes.ensures.same, ← c.eq.ensures) c.if-eq.true in
    sym (place_found c.args.name.now c.args.shards.now c.partition_point-place.result c.index-shards-place.result cut at same)

pub returns-else-place-shards : goal.returns-else-place-shards
returns-else-place-shards c =
    let point = IsPartitionPoint-from_clause (is_below c.args.name.now) c.args.shards.now c.partition_point-place.result c.partition_point-place.ensures.partitioned (names_parted c.args.name.now c.args.shards.now c.requires) (λ a r q k. search rules) in
    let cut = cut_from (is_below c.args.name.now) c.args.shards.now c.partition_point-place.result point in
    let none = place_none c.args.name.now c.args.shards.now c.partition_point-place.result (rising_from c.args.shards.now c.requires) cut in
    elim c.else-place-shards.branch [
      | else-place-shards-via-then-place-shards+else-eq w ↦
          let at = item_at c.args.shards.now c.partition_point-place.result w.index-shards-place.result w.if-place-shards.true w.index-shards-place.is in
          let differs : bytes_eq w.index-shards-place.result.name c.args.name.now ≡ false = rw (← w.name.ensures, ← w.bytes.ensures.same, ← w.eq.ensures) w.if-eq.false in
          sym (none (λ s g. let same : w.index-shards-place.result ≡ s = some_is _ s (sym at ∙ g) in subst (λ (x : ShardRow). bytes_eq x.name c.args.name.now ≡ false) same differs))
      | else-place-shards-via-else-place-shards w ↦ sym (none (λ s g. absurd (no_item c.args.shards.now c.partition_point-place.result s w.if-place-shards.false g)))
    ]

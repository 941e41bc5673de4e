use Rattle.std.proofs.Common.{sym}
use Rattle.chunk_map.proofs.Sizes.{shards_few, sharded_shape}
use Rattle.chunk_map.proofs.collection_form.sharded_in.Goals as goal

pub chunks_at-requires-clause-few : goal.chunks_at-requires-clause-few
chunks_at-requires-clause-few c =
    let s = rw c.in-Some-3.is at c.in_ok-shards.ensures.shards in
    rw c.as_slice.ensures.value (shards_few _ c.in-Some-3.shards.items (sym s)).1

pub sharded-requires : goal.sharded-requires
sharded-requires c =
    let p = rw c.in-Some-2.is at c.in_ok-paths.ensures in
    let s = rw c.in-Some-3.is at c.in_ok-shards.ensures.shards in
    let k = rw (c.in-Some-4.is, c.as_slice.ensures.value) at c.in_ok-chunks.ensures in
    let order = rw c.in-Some-3.is at c.in_ok-shards.ensures.order in
    sharded_shape c.in_ok-copy.field-0 c.in-Some-doc_field.key.now _ _ _ _ _ (sym p) (sym s) (sym k) order

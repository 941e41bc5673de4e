use Rattle.std.proofs.Common.{◌≡◌, ℕ, suc, List, [], ◌∷◌, ◌++◌, length, ap, refl, add-one}
use Rattle.std.specs.List.{flat_map, range_with_len}
use Rattle.bson_codec.specs.Records.{Document}
use Rattle.chunk_map.specs.Owned.{Files, part, parts_from}
use Rattle.chunk_map.specs.Table.{ShardRow, CollectionRow}
use Rattle.chunk_map.proofs.laws.owned_by_shard.Goals as goal

parts_joined : (files : Files) (c : CollectionRow) (i : ℕ) (ss : List ShardRow) → parts_from files c i ss ≡ flat_map (part files c) (range_with_len i (length ss))
parts_joined files c i [] = refl
parts_joined files c i (s ∷ ss) = rw (add-one i) (ap (λ (ds : List Document). part files c i ++ ds) (parts_joined files c (suc i) ss))

pub returns : goal.returns
returns c files table = parts_joined files table 0 table.shards

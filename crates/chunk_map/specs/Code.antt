-- Codes of the rows of a routing table, by which proofs tell them apart.
use Rattle.std.specs.Prelude.{ℕ, List, refl}
use Rattle.std.specs.Coded.{Coded, code_by, coded×, coded_ℕ, coded_list}
use Rattle.bson_value.specs.Tree.{Tree}
use Rattle.bson_value.specs.Code.{tree_code}
use Rattle.chunk_map.specs.Table.{ShardRow, ChunkRow, CollectionRow}

abbrev pub shard_code : Coded ShardRow
shard_code = code_by (List ℕ × List ℕ) (coded× (coded_list coded_ℕ) (coded_list coded_ℕ)) (λ s. (s.name, s.file)) (λ p. record { name = p.0; file = p.1 }) (λ _. refl)

abbrev pub chunk_code : Coded ChunkRow
chunk_code =
    code_by (List Tree × (List Tree × ℕ)) (coded× (coded_list tree_code) (coded× (coded_list tree_code) coded_ℕ))
    (λ c. (c.lowest, (c.bound, c.shard))) (λ p. record { lowest = p.0; bound = p.1.0; shard = p.1.1 }) (λ _. refl)

abbrev pub collection_code : Coded CollectionRow
collection_code =
    code_by (List ℕ × (List (List (List ℕ)) × (List ShardRow × List ChunkRow)))
    (coded× (coded_list coded_ℕ) (coded× (coded_list (coded_list (coded_list coded_ℕ))) (coded× (coded_list shard_code) (coded_list chunk_code))))
    (λ c. (c.name, (c.key_paths, (c.shards, c.chunks)))) (λ p. record { name = p.0; key_paths = p.1.0; shards = p.1.1.0; chunks = p.1.1.1 }) (λ _. refl)

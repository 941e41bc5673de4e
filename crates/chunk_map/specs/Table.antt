-- A routing table: collections, with the shards that hold them, and the chunks of their key ranges.
use Rattle.std.specs.Prelude.{ℕ, List, [], ◌∷◌}
use Rattle.bson_value.specs.Tree.{Tree}
use Rattle.bson_value.specs.Paths.{Steps}

-- a shard's name, and the name of its file
pub record ShardRow : Type 0 where
  pub name : List ℕ
  pub file : List ℕ

abbrev pub shard_row : List ℕ → List ℕ → ShardRow
shard_row name file = record { name = name; file = file }

-- a range of keys, from the lowest up to the one before the bound, and the place of its shard in the order of names.
-- While a file is read, the number of shards stands for a shard that isn't listed
pub record ChunkRow : Type 0 where
  pub lowest : List Tree
  pub bound : List Tree
  pub shard : ℕ

abbrev pub chunk_row : List Tree → List Tree → ℕ → ChunkRow
chunk_row lowest bound shard = record { lowest = lowest; bound = bound; shard = shard }

-- a collection, its shards in the order of their names. One that isn't sharded has no key paths and no chunks
pub record CollectionRow : Type 0 where
  pub name : List ℕ
  pub key_paths : List Steps
  pub shards : List ShardRow
  pub chunks : List ChunkRow

abbrev pub unsharded : List ℕ → ShardRow → CollectionRow
unsharded name shard = record { name = name; key_paths = []; shards = shard ∷ []; chunks = [] }

abbrev pub sharded : List ℕ → List Steps → List ShardRow → List ChunkRow → CollectionRow
sharded name paths shards chunks = record { name = name; key_paths = paths; shards = shards; chunks = chunks }

abbrev pub Table : Type 0
Table = List CollectionRow

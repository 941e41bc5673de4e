-- What holds of each collection of a routing table that was read.
use Rattle.std.specs.Prelude.{◌≡◌, ℕ, ◌<◌, ◌≤◌, ◌⊎◌, true, List, [], ◌∷◌, ◌++◌, length, Option, Some, None}
use Rattle.std.specs.List.{AllByRecursion}
use Rattle.std.specs.List.Sorted.{IsSortedBy}
use Rattle.bson_value.specs.Tree.{Tree}
use Rattle.chunk_map.specs.Table.{ShardRow, ChunkRow, CollectionRow}
use Rattle.chunk_map.specs.Form.{name_before}
use Rattle.chunk_map.specs.Keys.{none_left, follows, has_at, shard_of_key}

-- no shard's name is before that of an earlier one
abbrev pub AreInOrder : List ShardRow → Type 0
AreInOrder = IsSortedBy name_before

-- both ends of a chunk have as many parts as the key
abbrev pub HasParts : ℕ → ChunkRow → Type 0
HasParts n c = (length c.lowest ≡ n) × (length c.bound ≡ n)

pub record IsUnsharded (c : CollectionRow) : Type 0 where
  pub no_key : c.key_paths ≡ []
  pub no_chunks : c.chunks ≡ []
  pub one : length c.shards ≡ 1

pub record IsSharded (c : CollectionRow) : Type 0 where
  pub some_parts : 1 ≤ length c.key_paths
  pub few_parts : length c.key_paths ≤ 4
  pub some_shards : 1 ≤ length c.shards
  pub few_shards : length c.shards ≤ 64
  pub order : AreInOrder c.shards
  pub some_chunks : 1 ≤ length c.chunks
  pub few_chunks : length c.chunks ≤ 10000
  pub parts : AllByRecursion (HasParts (length c.key_paths)) c.chunks

-- it has the shape of a collection
abbrev pub IsShaped : CollectionRow → Type 0
IsShaped c = IsUnsharded c ⊎ IsSharded c

-- the range of each chunk follows, where others come behind these, and its shard is listed
abbrev pub AreGood : ℕ → Option (List Tree) → List ChunkRow → List ChunkRow → Type 0
AreGood shards ended [] later = Unit {0}
AreGood shards ended (c ∷ cs) later = (follows ended (none_left (cs ++ later)) c ≡ true) × (c.shard < shards) × AreGood shards (Some c.bound) cs later

pub record IsSound (c : CollectionRow) : Type 0 where
  pub shaped : IsShaped c
  pub good : AreGood (length c.shards) None c.chunks []

-- one chunk has the key, and no other; it gives the shard
pub record IsInOneChunk (key : List Tree) (cs : List ChunkRow) : Type 0 where
  pub place : ℕ
  pub has : has_at key cs place ≡ true
  pub only : (i : ℕ) → has_at key cs i ≡ true → i ≡ place
  pub front : List ChunkRow
  pub chunk : ChunkRow
  pub back : List ChunkRow
  pub split : front ++ chunk ∷ back ≡ cs
  pub at : length front ≡ place
  pub shard : shard_of_key key cs ≡ Some chunk.shard

-- each key of a sharded collection lies in one chunk
abbrev pub HaveOneChunk : CollectionRow → Type 0
HaveOneChunk c = 1 ≤ length c.key_paths → (key : List Tree) → length key ≡ length c.key_paths → IsInOneChunk key c.chunks

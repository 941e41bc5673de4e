-- Which documents spell a routing table, and which cluster files are refused: said of the table, not of how it is read.
use Rattle.std.specs.Prelude.{◌≡◌, ℕ, ◌+◌, ◌≤◌, ◌⊎◌, true, false, List, [], ◌∷◌, ◌++◌, map, length, Option, Some, None, Ok, Err, IsTrue, codes}
use Rattle.bson_value.specs.Path.{IsPathText, pieces}
use Rattle.bson_value.specs.Paths.{Steps}
use Rattle.bson_value.specs.Tree.{Tree, leaf, doc, list, text, pairs_of, trees_of}
use Rattle.bson_codec.specs.Records.{Document, FileFault, bytes_fault, trailing, document_of}
use Rattle.chunk_map.specs.Table.{ShardRow, ChunkRow, CollectionRow, unsharded, Table}
use Rattle.chunk_map.specs.Keys.{none_left, follows}
use Rattle.chunk_map.specs.Form.{is_collection_name, is_shard_name, is_file_name, is_one, by_name, place_of, is_twice_named}
use Rattle.chunk_map.specs.Sound.{AreGood}
use Rattle.chunk_map.specs.declared.errors.BadCluster.{BadCluster}
use Rattle.chunk_map.specs.declared.errors.ClusterWhy.{ClusterWhy}
use Rattle.chunk_map.specs.declared.errors.ClusterWhy.TheVariants as W

-- each stands for the one at its place
abbrev pub Each : {A B : Type 0} → (A → B → Type 0) → List A → List B → Type 0
Each R [] [] = Unit {0}
Each R [] (y ∷ ys) = ⊥
Each R (x ∷ xs) [] = ⊥
Each R (x ∷ xs) (y ∷ ys) = R x y × Each R xs ys

abbrev pub IsFew : {A : Type 0} → ℕ → List A → Type 0
IsFew most xs = (1 ≤ length xs) × (length xs ≤ most)

-- {name, file}
pub record SpellsShard (t : Tree) (s : ShardRow) : Type 0 where
  pub fields : t ≡ doc (pairs_of ((codes "name", leaf (text s.name)) ∷ (codes "file", leaf (text s.file)) ∷ []))
  pub name : IsTrue (is_shard_name s.name)
  pub file : IsTrue (is_file_name s.file)

-- {name, shards: [shard]}
pub record SpellsUnsharded (t : Tree) (c : CollectionRow) : Type 0 where
  pub shard : ShardRow
  pub shard_tree : Tree
  pub spelled : SpellsShard shard_tree shard
  pub fields : t ≡ doc (pairs_of ((codes "name", leaf (text c.name)) ∷ (codes "shards", list (trees_of (shard_tree ∷ []))) ∷ []))
  pub name : IsTrue (is_collection_name c.name)
  pub row : unsharded c.name shard ≡ c

-- the path's text, with 1
pub record SpellsPath (p : List ℕ × Tree) (path : Steps) : Type 0 where
  pub one : IsTrue (is_one p.1)
  pub text : IsPathText p.0
  pub steps : pieces p.0 ≡ path

-- the names of the key, with these values
pub record SpellsKey (key : Document) (d : Document) (values : List Tree) : Type 0 where
  pub names : map (λ p. p.0) key ≡ map (λ p. p.0) d
  pub values_are : map (λ p. p.1) d ≡ values

-- {min, max, shard}
pub record SpellsChunk (key : Document) (shards : List ShardRow) (t : Tree) (c : ChunkRow) : Type 0 where
  pub lowest : Document
  pub bound : Document
  pub shard : List ℕ
  pub fields : t ≡ doc (pairs_of ((codes "min", doc (pairs_of lowest)) ∷ (codes "max", doc (pairs_of bound)) ∷ (codes "shard", leaf (text shard)) ∷ []))
  pub lowest_is : SpellsKey key lowest c.lowest
  pub bound_is : SpellsKey key bound c.bound
  pub name : IsTrue (is_shard_name shard)
  pub place : place_of shard shards ≡ c.shard

-- {name, key, shards: [shard, ..], chunks: [chunk, ..]}
pub record SpellsSharded (t : Tree) (c : CollectionRow) : Type 0 where
  pub key : Document
  pub shard_trees : List Tree
  pub listed : List ShardRow
  pub chunk_trees : List Tree
  pub fields : t ≡ doc (pairs_of ((codes "name", leaf (text c.name)) ∷ (codes "key", doc (pairs_of key)) ∷ (codes "shards", list (trees_of shard_trees)) ∷ (codes "chunks", list (trees_of chunk_trees)) ∷ []))
  pub name : IsTrue (is_collection_name c.name)
  pub few_paths : IsFew 4 key
  pub paths : Each SpellsPath key c.key_paths
  pub few_shards : IsFew 64 shard_trees
  pub shards : Each SpellsShard shard_trees listed
  pub in_order : by_name listed ≡ c.shards
  pub few_chunks : IsFew 10000 chunk_trees
  pub chunks : Each (SpellsChunk key c.shards) chunk_trees c.chunks

abbrev pub SpellsCollection : Tree → CollectionRow → Type 0
SpellsCollection t c = SpellsUnsharded t c ⊎ SpellsSharded t c

-- each tree spells the collection of its place
abbrev pub SpellCollections : List Tree → Table → Type 0
SpellCollections = Each SpellsCollection

-- {cluster: 1, collections: [tree, ..]}, of 1 to 100 trees
pub record Lists (d : Document) (ts : List Tree) : Type 0 where
  pub one : Tree
  pub is_one : IsTrue (is_one one)
  pub fields : d ≡ (codes "cluster", one) ∷ (codes "collections", list (trees_of ts)) ∷ []
  pub some : 1 ≤ length ts
  pub few : length ts ≤ 100

-- no name stood before, and the chunks follow one another on listed shards
pub record IsGood (before : Table) (c : CollectionRow) : Type 0 where
  pub apart : is_twice_named before c ≡ false
  pub chunks : AreGood (length c.shards) None c.chunks []

-- each collection is good behind those before
abbrev pub AreApart : Table → Table → Type 0
AreApart before [] = Unit {0}
AreApart before (c ∷ cs) = IsGood before c × AreApart (before ++ c ∷ []) cs

-- the document spells the routing table
pub record Spells (d : Document) (cs : Table) : Type 0 where
  pub trees : List Tree
  pub lists : Lists d trees
  pub each : SpellCollections trees cs
  pub apart : AreApart [] cs

abbrev pub refusal : ℕ → ℕ → ClusterWhy → BadCluster
refusal collection chunk why = record { collection = collection; chunk = chunk; why = why }

-- the first collection that has another shape
pub record IsFormless (d : Document) (number : ℕ) : Type 0 where
  pub trees : List Tree
  pub lists : Lists d trees
  pub front : List Tree
  pub tree : Tree
  pub back : List Tree
  pub split : front ++ tree ∷ back ≡ trees
  pub rows : Table
  pub each : SpellCollections front rows
  pub none : (c : CollectionRow) → ¬ SpellsCollection tree c
  pub place : length front + 1 ≡ number

-- where the range behind these chunks is to begin
abbrev pub ended_by : Option (List Tree) → List ChunkRow → Option (List Tree)
ended_by ended [] = ended
ended_by ended (c ∷ cs) = ended_by (Some c.bound) cs

-- a range that doesn't follow, or else a shard that isn't listed
abbrev pub IsChunkFault : ℕ → Option (List Tree) → ChunkRow → List ChunkRow → ClusterWhy → Type 0
IsChunkFault shards ended c later W.Range = follows ended (none_left later) c ≡ false
IsChunkFault shards ended c later W.Shard = (follows ended (none_left later) c ≡ true) × (shards ≤ c.shard)
IsChunkFault shards ended c later _ = ⊥

-- the first chunk that is faulty
pub record IsBadChunk (c : CollectionRow) (number : ℕ) (why : ClusterWhy) : Type 0 where
  pub front : List ChunkRow
  pub chunk : ChunkRow
  pub back : List ChunkRow
  pub split : front ++ chunk ∷ back ≡ c.chunks
  pub good : AreGood (length c.shards) None front (chunk ∷ back)
  pub fault : IsChunkFault (length c.shards) (ended_by None front) chunk back why
  pub place : length front + 1 ≡ number

-- a name that stood before, or else the first faulty chunk
abbrev pub IsFaulty : Table → CollectionRow → ℕ → ClusterWhy → Type 0
IsFaulty before c chunk why =
    ((is_twice_named before c ≡ true) × (chunk ≡ 0) × (why ≡ W.TwiceNamed))
    ⊎ ((is_twice_named before c ≡ false) × IsBadChunk c chunk why)

-- the first collection that isn't good, where each has the shape of one
pub record IsBadRow (d : Document) (number chunk : ℕ) (why : ClusterWhy) : Type 0 where
  pub trees : List Tree
  pub lists : Lists d trees
  pub rows : Table
  pub each : SpellCollections trees rows
  pub before : Table
  pub row : CollectionRow
  pub after : Table
  pub split : before ++ row ∷ after ≡ rows
  pub apart : AreApart [] before
  pub fault : IsFaulty before row chunk why
  pub place : length before + 1 ≡ number

abbrev pub IsBadForm : Document → ℕ → Type 0
IsBadForm d number = ((number ≡ 0) × ((ts : List Tree) → ¬ Lists d ts)) ⊎ IsFormless d number

abbrev pub IsBadDocument : Document → ℕ → ℕ → ClusterWhy → Type 0
IsBadDocument d number chunk why = (IsBadForm d number × (chunk ≡ 0) × (why ≡ W.Form)) ⊎ IsBadRow d number chunk why

abbrev pub fault_why : FileFault → ClusterWhy
fault_why (bytes_fault b) = W.Bytes b
fault_why (trailing at) = W.Trailing at

-- the first refusal of a cluster file: its bytes, its shape, its collections in their order
abbrev pub IsRefused : List ℕ → BadCluster → Type 0
IsRefused bytes b =
    ((f : FileFault) × (document_of bytes ≡ Err f) × (refusal 0 0 (fault_why f) ≡ b))
    ⊎ ((d : Document) × (document_of bytes ≡ Ok d) × IsBadDocument d b.collection b.chunk b.why)

-- a cluster file is the document that spells the table
pub record IsCluster (bytes : List ℕ) (cs : Table) : Type 0 where
  pub document : Document
  pub whole : document_of bytes ≡ Ok document
  pub spells : Spells document cs

-- The documents that a collection owns: of each shard the records whose key lies in a chunk of that shard (the manual:
-- Data Partitioning with Chunks, Orphaned Documents).
use Rattle.std.specs.Prelude.{ℕ, suc, Bool, true, false, List, [], ◌∷◌, ◌++◌, Option, Some, None, slice_get, Result, Ok, Err, filter, ◌==◌, ◌||◌}
use Rattle.std.specs.List.{find}
use Rattle.std.specs.Str.{bytes_eq}
use Rattle.bson_value.specs.Tree.{Tree}
use Rattle.bson_value.specs.Paths.{Steps}
use Rattle.bson_codec.specs.Records.{Document, BadRecord, records}
use Rattle.chunk_map.specs.Table.{ShardRow, ChunkRow, CollectionRow, Table}
use Rattle.chunk_map.specs.Keys.{shard_of_key, key_of}

-- files by their names
abbrev pub Files : Type 0
Files = List ℕ → Option (List ℕ)

abbrev pub read_documents : Result (List Document) BadRecord → List Document
read_documents (Ok ds) = ds
read_documents (Err b) = []

-- the records of a file, in their order
abbrev pub documents_of : Option (List ℕ) → List Document
documents_of None = []
documents_of (Some bytes) = read_documents (records bytes)

abbrev pub is_shard : ℕ → Option ℕ → Bool
is_shard i None = false
is_shard i (Some j) = i == j

-- the key lies in a chunk of the shard of this place
abbrev pub lies_on : ℕ → List ChunkRow → Result (List Tree) ℕ → Bool
lies_on i chunks (Ok key) = is_shard i (shard_of_key key chunks)
lies_on i chunks (Err part) = false

-- one that isn't sharded has no key
abbrev pub has_no_key : List Steps → Bool
has_no_key [] = true
has_no_key (p ∷ ps) = false

-- the shard of this place owns the document
abbrev pub owns : CollectionRow → ℕ → Document → Bool
owns c i d = has_no_key c.key_paths || lies_on i c.chunks (key_of c.key_paths d)

-- the records of a shard's file, orphans among them
abbrev pub shard_records : Files → Option ShardRow → List Document
shard_records files None = []
shard_records files (Some s) = documents_of (files s.file)

-- the documents that a collection owns on the shard of this place
abbrev pub part : Files → CollectionRow → ℕ → List Document
part files c i = filter (owns c i) (shard_records files (slice_get c.shards i))

-- the parts of these shards, of which the first has this place, joined
abbrev pub parts_from : Files → CollectionRow → ℕ → List ShardRow → List Document
parts_from files c i [] = []
parts_from files c i (s ∷ ss) = part files c i ++ parts_from files c (suc i) ss

-- the documents that a collection owns, by shard and then by record
abbrev pub owned : Files → CollectionRow → List Document
owned files c = parts_from files c 0 c.shards

abbrev pub collection_named : List ℕ → Table → Option CollectionRow
collection_named name cluster = find (λ c. bytes_eq c.name name) cluster

abbrev pub owned_if : Files → Option CollectionRow → List Document
owned_if files None = []
owned_if files (Some c) = owned files c

-- the documents of the collection of this name. One that isn't named has none
abbrev pub owned_in : Files → Table → List ℕ → List Document
owned_in files cluster name = owned_if files (collection_named name cluster)

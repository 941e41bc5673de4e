-- What a cluster file stands for: a routing table, or the first refusal.
use Rattle.std.specs.Prelude.{◌≡◌, ℕ, suc, pos, Bool, true, false, List, [], ◌∷◌, ◌++◌, map, length, Option, Some, None, option_and_then, slice_get, slice_index, Result, Ok, Err, nat_le, nat_lt, ◌==◌, ◌&&◌, ◌||◌, not, codes, if◌then◌else◌}
use Rattle.std.specs.List.{list_all, list_any}
use Rattle.std.specs.Char.{is_ascii_alphanumeric}
use Rattle.std.specs.Ordering.{int_eq, is_lt}
use Rattle.std.specs.Str.{bytes_eq, is_utf8}
use Rattle.bson_value.specs.Order.{bytes_order}
use Rattle.bson_value.specs.Path.{pieces}
use Rattle.bson_value.specs.Paths.{Steps}
use Rattle.bson_value.specs.Tree.{Tree, leaf, doc, list, text, int, long, entries, members}
use Rattle.bson_codec.specs.Records.{Document, FileFault, bytes_fault, trailing, document_of}
use Rattle.chunk_map.specs.Table.{ShardRow, shard_row, ChunkRow, chunk_row, CollectionRow, unsharded, sharded, Table}
use Rattle.chunk_map.specs.Keys.{none_left, follows}
use Rattle.chunk_map.specs.declared.errors.BadCluster.{BadCluster}
use Rattle.chunk_map.specs.declared.errors.ClusterError.{ClusterError}
use Rattle.chunk_map.specs.declared.errors.ClusterError.TheVariants as E
use Rattle.chunk_map.specs.declared.errors.ClusterWhy.{ClusterWhy}
use Rattle.chunk_map.specs.declared.errors.ClusterWhy.TheVariants as W

infixl 10 ◌>>=◌
abbrev pub ◌>>=◌ : {A B : Type 0} → Option A → (A → Option B) → Option B
o >>= f = option_and_then f o

-- ---- names

abbrev pub is_word_byte : ℕ → Bool
is_word_byte b = is_ascii_alphanumeric b || (b == 95) || (b == 45)

abbrev pub has_size : ℕ → List ℕ → Bool
has_size most name = nat_le 1 (length name) && nat_le (length name) most

-- 1 to 120 letters, digits, '_', '-' and '.'
abbrev pub is_collection_name : List ℕ → Bool
is_collection_name name = has_size 120 name && list_all (λ b. is_word_byte b || (b == 46)) name

-- 1 to 64 letters, digits, '_' and '-'
abbrev pub is_shard_name : List ℕ → Bool
is_shard_name name = has_size 64 name && list_all is_word_byte name

-- 1 to 1,024 bytes, none of them 0
abbrev pub is_file_name : List ℕ → Bool
is_file_name name = has_size 1024 name && list_all (λ b. not (b == 0)) name

-- a step of a path isn't empty, doesn't begin with '$' and holds no byte 0
abbrev pub is_step : List ℕ → Bool
is_step s = is_utf8 s && (nat_le 1 (length s) && (not (slice_index s 0 == 36) && list_all (λ b. not (b == 0)) s))

-- the text of a path, of at most 100 steps
unfoldable pub is_path_text : List ℕ → Bool
is_path_text t = is_utf8 t && (nat_le (length (pieces t)) 100 && list_all is_step (pieces t))

-- ---- values of a kind

abbrev pub text_of : Tree → Option (List ℕ)
text_of (leaf (text s)) = Some s
text_of _ = None

abbrev pub doc_of : Tree → Option Document
doc_of (doc ps) = Some (entries ps)
doc_of _ = None

abbrev pub list_of : Tree → Option (List Tree)
list_of (list ts) = Some (members ts)
list_of _ = None

abbrev pub is_one : Tree → Bool
is_one (leaf (int n)) = int_eq n (pos 1)
is_one (leaf (long n)) = int_eq n (pos 1)
is_one _ = false

-- the value of the field at a place, where it has this name
abbrev pub field_at : ℕ → List ℕ → Document → Option Tree
field_at i name d = option_and_then (λ p. if bytes_eq p.0 name then Some p.1 else None) (slice_get d i)

abbrev pub text_at : ℕ → List ℕ → Document → Option (List ℕ)
text_at i name d = option_and_then text_of (field_at i name d)

abbrev pub doc_at : ℕ → List ℕ → Document → Option Document
doc_at i name d = option_and_then doc_of (field_at i name d)

abbrev pub list_at : ℕ → List ℕ → Document → Option (List Tree)
list_at i name d = option_and_then list_of (field_at i name d)

-- at least one, and at most so many
abbrev pub some_few : {A : Type 0} → ℕ → List A → Option (List A)
some_few most xs = if nat_le 1 (length xs) && nat_le (length xs) most then Some xs else None

abbrev pub with_first : {A : Type 0} → A → Option (List A) → Option (List A)
with_first x None = None
with_first x (Some xs) = Some (x ∷ xs)

-- what each item stands for, if all stand for something
abbrev pub all_of : {A B : Type 0} → (A → Option B) → List A → Option (List B)
all_of f [] = Some []
all_of f (x ∷ xs) = option_and_then (λ y. with_first y (all_of f xs)) (f x)

-- ---- shards

abbrev pub shard_if : List ℕ → List ℕ → Option ShardRow
shard_if name file = if is_shard_name name && is_file_name file then Some (shard_row name file) else None

-- {name, file}
abbrev pub shard_in : Document → Option ShardRow
shard_in d =
    if length d == 2
    then option_and_then (λ name. option_and_then (λ file. shard_if name file) (text_at 1 (codes "file") d)) (text_at 0 (codes "name") d)
    else None

unfoldable pub shard_of : Tree → Option ShardRow
shard_of t = option_and_then shard_in (doc_of t)

-- the shard of a collection that isn't sharded
abbrev pub only_shard : List Tree → Option ShardRow
only_shard ts = if length ts == 1 then option_and_then shard_of (slice_get ts 0) else None

-- 1 to 64 shards
unfoldable pub shards_in : List Tree → Option (List ShardRow)
shards_in ts = option_and_then (all_of shard_of) (some_few 64 ts)

abbrev pub name_before : ShardRow → ShardRow → Bool
name_before a b = is_lt (bytes_order a.name b.name)

-- put in front of the first whose name isn't before its own
abbrev pub put_by_name : ShardRow → List ShardRow → List ShardRow
put_by_name s [] = s ∷ []
put_by_name s (t ∷ ts) = if name_before t s then t ∷ put_by_name s ts else s ∷ t ∷ ts

-- shards in the order of their names
abbrev pub by_name : List ShardRow → List ShardRow
by_name [] = []
by_name (s ∷ ss) = put_by_name s (by_name ss)

-- the place of the first shard of this name, or the number of shards where none has it
abbrev pub place_of : List ℕ → List ShardRow → ℕ
place_of name [] = 0
place_of name (s ∷ ss) = if bytes_eq s.name name then 0 else suc (place_of name ss)

-- ---- keys and chunks

abbrev pub path_in : List ℕ × Tree → Option Steps
path_in p = if is_one p.1 && is_path_text p.0 then Some (pieces p.0) else None

-- {path: 1, ..}, of 1 to 4 paths
unfoldable pub paths_in : Document → Option (List Steps)
paths_in key = option_and_then (all_of path_in) (some_few 4 key)

-- the names of two documents are the same, one by one
abbrev pub same_names : Document → Document → Bool
same_names [] [] = true
same_names [] (q ∷ qs) = false
same_names (p ∷ ps) [] = false
same_names (p ∷ ps) (q ∷ qs) = bytes_eq p.0 q.0 && same_names ps qs

-- {path: v, ..}: the values at the key's paths, in the key's order
unfoldable pub values_in : Document → Document → Option (List Tree)
values_in key d = if same_names key d then Some (map (λ p. p.1) d) else None

abbrev pub chunk_if : List ShardRow → List Tree → List Tree → List ℕ → Option ChunkRow
chunk_if shards lowest bound name = if is_shard_name name then Some (chunk_row lowest bound (place_of name shards)) else None

abbrev pub chunk_fields : Document → List ShardRow → Document → Option ChunkRow
chunk_fields key shards d = do
  lowest ← option_and_then (values_in key) (doc_at 0 (codes "min") d)
  bound ← option_and_then (values_in key) (doc_at 1 (codes "max") d)
  name ← text_at 2 (codes "shard") d
  chunk_if shards lowest bound name

-- {min, max, shard}
abbrev pub chunk_in : Document → List ShardRow → Document → Option ChunkRow
chunk_in key shards d = if length d == 3 then chunk_fields key shards d else None

unfoldable pub chunk_of : Document → List ShardRow → Tree → Option ChunkRow
chunk_of key shards t = option_and_then (chunk_in key shards) (doc_of t)

-- 1 to 10,000 chunks
unfoldable pub chunks_in : Document → List ShardRow → List Tree → Option (List ChunkRow)
chunks_in key shards ts = option_and_then (all_of (chunk_of key shards)) (some_few 10000 ts)

-- ---- collections

abbrev pub unsharded_if : List ℕ → ShardRow → Option CollectionRow
unsharded_if name shard = if is_collection_name name then Some (unsharded name shard) else None

-- {name, shards: [shard]}
unfoldable pub unsharded_in : Document → Option CollectionRow
unsharded_in d = do
  name ← text_at 0 (codes "name") d
  shard ← option_and_then only_shard (list_at 1 (codes "shards") d)
  unsharded_if name shard

abbrev pub sharded_if : List ℕ → List Steps → List ShardRow → List ChunkRow → Option CollectionRow
sharded_if name paths shards chunks = if is_collection_name name then Some (sharded name paths shards chunks) else None

-- {name, key, shards: [shard, ..], chunks: [chunk, ..]}
unfoldable pub sharded_in : Document → Option CollectionRow
sharded_in d = do
  name ← text_at 0 (codes "name") d
  key ← doc_at 1 (codes "key") d
  paths ← paths_in key
  shards ← option_and_then shards_in (list_at 2 (codes "shards") d)
  chunks ← option_and_then (chunks_in key (by_name shards)) (list_at 3 (codes "chunks") d)
  sharded_if name paths (by_name shards) chunks

-- a key and chunks stand both, or neither
abbrev pub collection_in : Document → Option CollectionRow
collection_in d = if length d == 2 then unsharded_in d else (if length d == 4 then sharded_in d else None)

unfoldable pub collection_of : Tree → Option CollectionRow
collection_of t = option_and_then collection_in (doc_of t)

abbrev pub if_one : Tree → Document → Option (List Tree)
if_one t d = if is_one t then option_and_then (some_few 100) (list_at 1 (codes "collections") d) else None

-- {cluster: 1, collections: [collection, ..]}
unfoldable pub collections_in : Document → Option (List Tree)
collections_in d = if length d == 2 then option_and_then (λ t. if_one t d) (field_at 0 (codes "cluster") d) else None

-- ---- names that stood before

abbrev pub has_file : List ℕ → List ShardRow → Bool
has_file file shards = list_any (λ s. bytes_eq s.file file) shards

-- an earlier shard of the collection has its name, or an earlier shard of any collection its file
abbrev pub stood_before : Table → List ShardRow → ShardRow → Bool
stood_before before seen s = list_any (λ o. bytes_eq o.name s.name) seen || (has_file s.file seen || list_any (λ c. has_file s.file c.shards) before)

abbrev pub has_shard_twice : Table → List ShardRow → List ShardRow → Bool
has_shard_twice before seen [] = false
has_shard_twice before seen (s ∷ ss) = stood_before before seen s || has_shard_twice before (seen ++ s ∷ []) ss

-- the collection's name, the name of a shard of it or the name of a file stood before
unfoldable pub is_twice_named : Table → CollectionRow → Bool
is_twice_named before c = list_any (λ b. bytes_eq b.name c.name) before || has_shard_twice before [] c.shards

-- ---- what is wrong with a collection of the right shape

-- a chunk's number, or 0 where none is meant, and why it is refused
abbrev pub Fault : Type 0
Fault = ℕ × ClusterWhy

-- the first chunk whose range doesn't follow those before, or whose shard isn't listed
abbrev pub chunks_fault : ℕ → ℕ → Option (List Tree) → List ChunkRow → Option Fault
chunks_fault shards number ended [] = None
chunks_fault shards number ended (c ∷ cs) =
    if follows ended (none_left cs) c
    then (if nat_lt c.shard shards then chunks_fault shards (suc number) (Some c.bound) cs else Some (number, W.Shard))
    else Some (number, W.Range)

-- first its names, and then its chunks one by one
unfoldable pub collection_fault : Table → CollectionRow → Option Fault
collection_fault before c = if is_twice_named before c then Some (0, W.TwiceNamed) else chunks_fault (length c.shards) 1 None c.chunks

-- ---- the table

abbrev pub Answer : Type 0
Answer = Result Table BadCluster

abbrev pub refuse_at : ℕ → ℕ → ClusterWhy → Answer
refuse_at collection chunk why = Err (record { collection = collection; chunk = chunk; why = why })

abbrev pub refuse : ℕ → ClusterWhy → Answer
refuse collection why = refuse_at collection 0 why

abbrev pub row_then : ℕ → Option CollectionRow → (CollectionRow → Answer) → Answer
row_then number None next = refuse number W.Form
row_then number (Some c) next = next c

-- the collections of these trees behind those before, of which the first has this number
unfoldable pub rows : ℕ → Table → List Tree → Answer
rows number before [] = Ok before
rows number before (t ∷ ts) = row_then number (collection_of t) (λ c. rows (suc number) (before ++ c ∷ []) ts)

abbrev pub unless : ℕ → Option Fault → Answer → Answer
unless number None next = next
unless number (Some f) next = refuse_at number f.0 f.1

-- these collections behind those before, if nothing is wrong with any
unfoldable pub checked : ℕ → Table → Table → Answer
checked number before [] = Ok before
checked number before (c ∷ cs) = unless number (collection_fault before c) (checked (suc number) (before ++ c ∷ []) cs)

abbrev pub rows_checked : Answer → Answer
rows_checked (Ok cs) = checked 1 [] cs
rows_checked (Err b) = Err b

abbrev pub cluster_of : Option (List Tree) → Answer
cluster_of None = refuse 0 W.Form
cluster_of (Some ts) = rows_checked (rows 1 [] ts)

abbrev pub table_of : Result Document FileFault → Answer
table_of (Err (bytes_fault b)) = refuse 0 (W.Bytes b)
table_of (Err (trailing at)) = refuse 0 (W.Trailing at)
table_of (Ok d) = cluster_of (collections_in d)

-- the routing table of a cluster file, or the first refusal: of the file's bytes, of the first collection that has
-- another shape, of the first collection that names anew what was named or has a faulty chunk
unfoldable pub table : List ℕ → Answer
table bytes = table_of (document_of bytes)

-- the error is that refusal, unless memory ran out
abbrev pub Refuses : ClusterError → Answer → Type 0
Refuses (E.Bad b) answer = answer ≡ Err b
Refuses E.Memory answer = Unit {0}

-- what a call answered is that, unless memory ran out
abbrev pub Reads : Result Table ClusterError → Answer → Type 0
Reads (Ok cs) answer = answer ≡ Ok cs
Reads (Err e) answer = Refuses e answer

-- What a collection may not name: what is named already.
use Rattle.std.specs.Prelude.{◌≡◌, ℕ, List, ◌∷◌, ◌++◌, map}
use Rattle.std.specs.List.{Contains, flat_map}
use Rattle.chunk_map.specs.Table.{ShardRow, CollectionRow, Table}

abbrev pub shard_names : List ShardRow → List (List ℕ)
shard_names = map (λ s. s.name)

abbrev pub file_names : List ShardRow → List (List ℕ)
file_names = map (λ s. s.file)

abbrev pub collection_names : Table → List (List ℕ)
collection_names = map (λ c. c.name)

-- the files of all collections
abbrev pub all_files : Table → List (List ℕ)
all_files = flat_map (λ c. file_names c.shards)

-- an item stands at two places
abbrev pub HasTwice : {A : Type 0} → List A → Type 0
HasTwice {A} xs = (front : List A) × (x : A) × (back : List A) × (front ++ x ∷ back ≡ xs) × Contains front x

-- an item stands in both
abbrev pub HaveCommon : {A : Type 0} → List A → List A → Type 0
HaveCommon {A} xs ys = (x : A) × Contains xs x × Contains ys x

-- an earlier collection has the name, two shards have one name, or a file stands twice in the collection, or in an
-- earlier one too
pub data NamesAnew (before : Table) (c : CollectionRow) : Type 0 where
  name : Contains (collection_names before) c.name → NamesAnew before c
  shard : HasTwice (shard_names c.shards) → NamesAnew before c
  own_file : HasTwice (file_names c.shards) → NamesAnew before c
  other_file : HaveCommon (all_files before) (file_names c.shards) → NamesAnew before c

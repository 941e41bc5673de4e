-- The names that stood before, kept in search trees.
use Rattle.std.specs.Prelude.{◌≡◌, ℕ, Bool, List, [], is_some, ◌||◌}
use Rattle.std.specs.List.{list_any}
use Rattle.std.specs.Ordering.{nat_cmp}
use Rattle.std.specs.Str.{bytes_eq}
use Rattle.std.specs.Cmp.Lexicographic.{slice_cmp}
use Rattle.std.specs.BTreeMap.{BTreeMap, get_by}
use denote.Ref.{Bor}
use Rattle.chunk_map.specs.Table.{ShardRow, Table}
use Rattle.chunk_map.specs.Form.{has_file}
use Rattle.chunk_map.specs.declared.named.Seen.{Seen}

abbrev pub has_name : {X : Type 0} → List ℕ → BTreeMap (Bor (List ℕ)) X → Bool
has_name n tree = is_some (get_by (λ k. slice_cmp nat_cmp n k.now) tree)

-- a name more
abbrev pub HasMore : {X : Type 0} → List ℕ → BTreeMap (Bor (List ℕ)) X → BTreeMap (Bor (List ℕ)) X → Type 0
HasMore name old new = (n : List ℕ) → has_name n new ≡ (bytes_eq name n || has_name n old)

-- the files of these collections and shards
pub record HasFiles {X : Type 0} (tree : BTreeMap (Bor (List ℕ)) X) (before : Table) (seen : List ShardRow) : Type 0 where
  pub files : (n : List ℕ) → has_name n tree ≡ (has_file n seen || list_any (λ c. has_file n c.shards) before)

-- the names of these shards
pub record HasShards {X : Type 0} (tree : BTreeMap (Bor (List ℕ)) X) (seen : List ShardRow) : Type 0 where
  pub names : (n : List ℕ) → has_name n tree ≡ list_any (λ o. bytes_eq o.name n) seen

-- the names of these collections, and their files
pub record HasSeen (s : Seen) (before : Table) : Type 0 where
  pub names : (n : List ℕ) → has_name n s.collections ≡ list_any (λ c. bytes_eq c.name n) before
  pub files : HasFiles s.files before []

-- Keys of sharded collections, the ranges of their chunks, and the chunk of a key (the manual: Shard Keys, Data
-- Partitioning with Chunks, Missing Shard Key Fields).
use Rattle.std.specs.Prelude.{ℕ, zero, suc, Bool, true, false, List, [], ◌∷◌, Option, Some, None, Result, Ok, Err, ◌==◌, ◌&&◌, ◌||◌, not, if◌then◌else◌}
use Rattle.std.specs.List.{list_all}
use Rattle.std.specs.Option.{option_map_or}
use Rattle.std.specs.Ordering.{is_lt, is_eq, is_le}
use Rattle.std.specs.Cmp.Lexicographic.{slice_cmp}
use Rattle.std.specs.declared.cmp.Ordering.{Ordering}
use Rattle.bson_value.specs.Tree.{Tree, leaf, doc, list, null, pairs_of, entries}
use Rattle.bson_value.specs.Order.{class, order}
use Rattle.bson_value.specs.Pairs.{find}
use Rattle.bson_value.specs.Paths.{Steps, plain}
use Rattle.bson_codec.specs.Records.{Document}
use Rattle.chunk_map.specs.Table.{ChunkRow}

-- keys are compared part by part
abbrev pub key_order : List Tree → List Tree → Ordering
key_order = slice_cmp order

-- each part is MinKey; each part is MaxKey
abbrev pub is_lowest : List Tree → Bool
is_lowest key = list_all (λ t. class t == 1) key

abbrev pub is_highest : List Tree → Bool
is_highest key = list_all (λ t. class t == 12) key

-- ---- the ranges of chunks

abbrev pub none_left : List ChunkRow → Bool
none_left [] = true
none_left (c ∷ cs) = false

-- the first range begins at MinKey, each later one where the one before it ended
abbrev pub begins : Option (List Tree) → List Tree → Bool
begins None lowest = is_lowest lowest
begins (Some ended) lowest = is_eq (key_order ended lowest)

-- a range begins where it must and isn't empty, and the last one ends at MaxKey
abbrev pub follows : Option (List Tree) → Bool → ChunkRow → Bool
follows ended last c = begins ended c.lowest && (is_lt (key_order c.lowest c.bound) && (not last || is_highest c.bound))

-- ---- the chunk of a key

-- the range has the key; the last one has the key of MaxKeys too
abbrev pub has : List Tree → Bool → ChunkRow → Bool
has key last c = is_le (key_order c.lowest key) && (is_lt (key_order key c.bound) || (last && is_highest key))

-- the chunk at that place has the key
abbrev pub has_at : List Tree → List ChunkRow → ℕ → Bool
has_at key [] i = false
has_at key (c ∷ cs) zero = has key (none_left cs) c
has_at key (c ∷ cs) (suc i) = has_at key cs i

-- the shard of the first chunk that has the key
abbrev pub shard_of_key : List Tree → List ChunkRow → Option ℕ
shard_of_key key [] = None
shard_of_key key (c ∷ cs) = if has key (none_left cs) c then Some c.shard else shard_of_key key cs

-- ---- the key of a document

abbrev pub is_array : Tree → Bool
is_array (leaf l) = false
is_array (doc ps) = false
is_array (list ts) = true

-- an array stands on the path's way, or at its end
abbrev pub meets_array : Steps → Tree → Bool
meets_array [] t = is_array t
meets_array (s ∷ ss) (leaf l) = false
meets_array (s ∷ ss) (doc ps) = option_map_or (meets_array ss) (find s (entries ps)) false
meets_array (s ∷ ss) (list ts) = true

-- the value of a key's part; a missing one counts as null
abbrev pub part_value : Option Tree → Tree
part_value v = option_map_or (λ t. t) v (leaf null)

abbrev pub with_part : Tree → Result (List Tree) ℕ → Result (List Tree) ℕ
with_part t (Ok ts) = Ok (t ∷ ts)
with_part t (Err part) = Err part

-- the values of the paths in turn, of which the first is the part of that number, or the number of the first whose
-- path meets an array
abbrev pub key_from : ℕ → List Steps → Tree → Result (List Tree) ℕ
key_from number [] t = Ok []
key_from number (p ∷ ps) t = if meets_array p t then Err number else with_part (part_value (plain p t)) (key_from (suc number) ps t)

-- a document's key
abbrev pub key_of : List Steps → Document → Result (List Tree) ℕ
key_of paths d = key_from 1 paths (doc (pairs_of d))

-- What the lists of all shards are as one list: a router joins them, or merges them where they are sorted (the manual,
-- Routing with mongos). That shards stand in order of their names, and equal keys by shard, is this project's own.
use Rattle.std.specs.Prelude.{◌≡◌, Bool, List, [], ◌∷◌, if◌then◌else◌}
use Rattle.std.specs.List.{flat_map}
use Rattle.std.specs.Ordering.{is_lt}
use Rattle.std.specs.List.Sorted.{IsSortedBy, IsStableBy}
use Rattle.bson_value.specs.Order.{bytes_order}
use Rattle.merge_cursor.specs.declared.item.Keyed.{Keyed}

-- x, put in front of the first that is not before it
abbrev pub put_by : {X : Type 0} → (X → X → Bool) → X → List X → List X
put_by before x [] = x ∷ []
put_by before x (y ∷ ys) = if before y x then y ∷ put_by before x ys else x ∷ y ∷ ys

-- the elements in order; those that tie stay in the order that they had
abbrev pub ordered_by : {X : Type 0} → (X → X → Bool) → List X → List X
ordered_by before [] = []
ordered_by before (x ∷ xs) = put_by before x (ordered_by before xs)

-- a's key is below b's, byte by byte; a key that another begins with is below it
abbrev pub key_before : Keyed → Keyed → Bool
key_before a b = is_lt (bytes_order a.key b.key)

-- the lists, one after another
abbrev pub joined : {X : Type 0} → List (List X) → List X
joined = flat_map (λ xs. xs)

-- the shards' lists as one: joined, or in order of keys with equal keys by shard
abbrev pub whole : Bool → List (List Keyed) → List Keyed
whole by_key lists = if by_key then ordered_by key_before (joined lists) else joined lists

-- the elements in order are sorted by key and stable, and nothing else is
abbrev pub IsStableOrder : Type 0
IsStableOrder = (xs : List Keyed) → IsSortedBy key_before (ordered_by key_before xs) × IsStableBy key_before xs (ordered_by key_before xs)

abbrev pub IsOnlyStableOrder : Type 0
IsOnlyStableOrder = (xs ys : List Keyed) → IsSortedBy key_before ys → IsStableBy key_before xs ys → ys ≡ ordered_by key_before xs

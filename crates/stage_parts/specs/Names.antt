-- The names in a stage: those of its fields, those that it makes, and those of collections.
use Rattle.std.specs.Prelude.{ℕ, Bool, false, ◌&&◌, ◌||◌, not, ◌==◌, nat_le, List, [], ◌∷◌, map, length, Option, Some, is_some}
use Rattle.std.specs.List.{list_all, list_any}
use Rattle.std.specs.Str.{bytes_eq, is_utf8}
use Rattle.bson_value.specs.Pairs.{find}
use Rattle.expr_read.specs.Reading.{only_if}
use Rattle.stage_tree.specs.Outcome.{Fields}
use denote.Ref.{Bor}

-- the names that slices of bytes are
abbrev pub words : List (Bor (List ℕ)) → List (List ℕ)
words ns = map (λ n. n.now) ns

abbrev pub is_one_of : List (List ℕ) → List ℕ → Bool
is_one_of names n = list_any (λ m. bytes_eq m n) names

abbrev pub has_each : List (List ℕ) → Fields → Bool
has_each names ps = list_all (λ n. is_some (find n ps)) names

abbrev pub is_known : List (List ℕ) → List (List ℕ) → List ℕ → Bool
is_known required optional n = is_one_of required n || is_one_of optional n

-- a document has the names that are required, and no other but these and the optional ones
abbrev pub has_only : List (List ℕ) → List (List ℕ) → Fields → Bool
has_only required optional ps = has_each required ps && list_all (λ p. is_known required optional p.0) ps

-- UTF-8 without byte 0
abbrev pub is_name : List ℕ → Bool
is_name n = is_utf8 n && list_all (λ b. not (b == 0)) n

-- not empty, and without a dollar sign in front
abbrev pub is_unsigned : List ℕ → Bool
is_unsigned [] = false
is_unsigned (b ∷ bs) = not (b == 36)

abbrev pub has_dot : List ℕ → Bool
has_dot n = list_any (λ b. b == 46) n

-- a name that a stage makes, and one without a dot
abbrev pub is_made_name : List ℕ → Bool
is_made_name n = is_unsigned n && is_name n

abbrev pub is_field_name : List ℕ → Bool
is_field_name n = not (has_dot n) && is_made_name n

abbrev pub made_name : List ℕ → Option (List ℕ)
made_name n = only_if (is_made_name n) (Some n)

abbrev pub field_name : List ℕ → Option (List ℕ)
field_name n = only_if (is_field_name n) (Some n)

-- the name of a collection: 1 to 120 ASCII letters, digits, '_', '-' and '.'
abbrev pub is_between : ℕ → ℕ → ℕ → Bool
is_between low high n = nat_le low n && nat_le n high

abbrev pub is_letter_or_digit : ℕ → Bool
is_letter_or_digit b = is_between 48 57 b || (is_between 65 90 b || is_between 97 122 b)

abbrev pub is_collection_byte : ℕ → Bool
is_collection_byte b = is_letter_or_digit b || (b == 95 || (b == 45 || b == 46))

abbrev pub is_collection_name : List ℕ → Bool
is_collection_name name = is_between 1 120 (length name) && list_all is_collection_byte name

abbrev pub collection_name : List ℕ → Option (List ℕ)
collection_name n = only_if (is_collection_name n) (Some n)

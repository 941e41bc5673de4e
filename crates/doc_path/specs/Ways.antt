-- What lies on the way of a path in a document (the manual, Dot Notation).
use Rattle.std.specs.Prelude.{◌≡◌, ℕ, Bool, true, false, List, [], ◌∷◌, ◌||◌, ◌&&◌, None, Some}
use Rattle.std.specs.Option.{option_map_or}
use Rattle.std.specs.List.{list_any}
use Rattle.bson_value.specs.Tree.{Tree, leaf, doc, list, pairs_of, entries}
use Rattle.bson_value.specs.Pairs.{find}
use Rattle.bson_value.specs.Paths.{Steps, behind, is_end}

-- no array is met before the end of the path
abbrev pub is_free : Steps → Tree → Bool
is_free [] t = true
is_free (s ∷ ss) (leaf l) = true
is_free (s ∷ ss) (doc ps) = option_map_or (is_free ss) (find s (entries ps)) true
is_free (s ∷ ss) (list ts) = false

-- the path leads through documents that are there to a name that its last document doesn't have
abbrev pub IsNew : Steps → List (List ℕ × Tree) → Type 0
IsNew [] ps = ⊥
IsNew (s ∷ []) ps = find s ps ≡ None
IsNew (s ∷ t ∷ ss) ps = (qs : List (List ℕ × Tree)) × (find s ps ≡ Some (doc (pairs_of qs))) × IsNew (t ∷ ss) qs

abbrev pub holds_values : Tree → Bool
holds_values (leaf l) = false
holds_values (doc ps) = true
holds_values (list ts) = true

-- something of a field is kept: a path ends at it, or leads into a document or an array
abbrev pub stays : List Steps → List ℕ × Tree → Bool
stays paths p = list_any is_end (behind p.0 paths) || (list_any (λ _. true) (behind p.0 paths) && holds_values p.1)

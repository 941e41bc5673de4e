-- Paths in a stage: as texts, behind a dollar sign, and apart from each other.
use Rattle.std.specs.Prelude.{ℕ, Bool, true, false, ◌&&◌, not, ◌==◌, List, [], ◌∷◌, map, Option, Some, None}
use Rattle.std.specs.Cmp.Lexicographic.{slice_cmp}
use Rattle.std.specs.List.{list_all}
use Rattle.std.specs.Ordering.{nat_cmp}
use Rattle.std.specs.Str.{bytes_eq}
use Rattle.std.specs.declared.cmp.Ordering.{Ordering}
use Rattle.bson_value.specs.Paths.{Steps}
use Rattle.bson_value.specs.Tree.{Tree}
use Rattle.expr_read.specs.Reading.{only_if, path_in, ◌>>=◌}
use Rattle.stage_parts.specs.Values.{as_text}
use denote.Ref.{Bor}

-- the path that stands behind a dollar sign
abbrev pub behind_sign : List ℕ → Option Steps
behind_sign [] = None
behind_sign (b ∷ bs) = only_if (b == 36) (path_in bs)

-- a value that is the text of a path, and one that is such a text with a dollar sign in front
abbrev pub path_text : Tree → Option Steps
path_text t = as_text t >>= path_in

abbrev pub field_path : Tree → Option Steps
field_path t = as_text t >>= behind_sign

-- the one path is the front of the other, or all of it
abbrev pub begins : Steps → Steps → Bool
begins [] qs = true
begins (p ∷ ps) [] = false
begins (p ∷ ps) (q ∷ qs) = bytes_eq p q && begins ps qs

-- neither is the other or begins it
abbrev pub is_apart : Steps → Steps → Bool
is_apart p q = not (begins p q) && not (begins q p)

-- the paths are distinct, and none is a prefix of another
abbrev pub are_apart : List Steps → Bool
are_apart [] = true
are_apart (p ∷ ps) = list_all (is_apart p) ps && are_apart ps

-- the paths that borrowed steps are
abbrev pub steps_in : List (Bor Steps) → List Steps
steps_in ps = map (λ p. p.now) ps

-- step by step, so that a path stands before those that it begins
abbrev pub steps_order : Steps → Steps → Ordering
steps_order = slice_cmp (slice_cmp nat_cmp)

-- no path begins the one behind it
abbrev pub is_apart_from_first : Steps → List Steps → Bool
is_apart_from_first p [] = true
is_apart_from_first p (q ∷ qs) = not (begins p q)

abbrev pub are_neighbours_apart : List Steps → Bool
are_neighbours_apart [] = true
are_neighbours_apart (p ∷ ps) = is_apart_from_first p ps && are_neighbours_apart ps

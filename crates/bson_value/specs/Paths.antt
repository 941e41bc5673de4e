-- What a path means in a document: what it reaches, where it ends, and what setting, removing and keeping it leaves
-- (the manual: field paths, query an array, projection).
use Rattle.std.specs.Prelude.{ℕ, suc, Bool, true, false, List, [], ◌∷◌, ◌++◌, map, Option, Some, None, if◌then◌else◌}
use Rattle.std.specs.Option.{option_and_then, option_map_or}
use Rattle.std.specs.List.{list_any, flat_map}
use Rattle.std.specs.Str.{bytes_eq}
use Rattle.std.specs.Fmt.{decimal}
use Rattle.bson_value.specs.Tree.{Tree, leaf, doc, list, Pairs, no_pairs, pair, Trees, no_trees, tree, pairs_of, trees_of, entries, members}
use Rattle.bson_value.specs.Pairs.{find, put, without}

-- the steps of a path
abbrev pub Steps : Type 0
Steps = List (List ℕ)

-- in front, where there is something
abbrev pub kept : {A : Type 0} → Option A → List A → List A
kept None ts = ts
kept (Some t) ts = t ∷ ts

-- what is taken out of a document; out of another value nothing
abbrev pub in_doc : (List (List ℕ × Tree) → Option Tree) → Tree → Option Tree
in_doc go (leaf l) = None
in_doc go (doc ps) = go (entries ps)
in_doc go (list ts) = None

-- what is taken out of those that are documents
abbrev pub gather : (List (List ℕ × Tree) → Option Tree) → List Tree → List Tree
gather go [] = []
gather go (t ∷ ts) = kept (in_doc go t) (gather go ts)

-- out of a document, or out of the documents of an array as an array
abbrev pub in_value : (List (List ℕ × Tree) → Option Tree) → Tree → Option Tree
in_value go (leaf l) = None
in_value go (doc ps) = go (entries ps)
in_value go (list ts) = Some (list (trees_of (gather go (members ts))))

-- the value of a path in an expression
abbrev pub reach : Steps → Tree → Option Tree
reach [] t = Some t
reach (s ∷ ss) t = in_value (λ ps. option_and_then (reach ss) (find s ps)) t

-- what the rest of a path reaches in a document's field
abbrev pub field_reach : List ℕ → Steps → List (List ℕ × Tree) → Option Tree
field_reach s ss ps = option_and_then (reach ss) (find s ps)

-- the value on a way through documents alone
abbrev pub plain : Steps → Tree → Option Tree
plain [] t = Some t
plain (s ∷ ss) t = in_doc (λ ps. option_and_then (plain ss) (find s ps)) t

abbrev pub field_plain : List ℕ → Steps → List (List ℕ × Tree) → Option Tree
field_plain s ss ps = option_and_then (plain ss) (find s ps)

-- where the rest of a path ends in a document's field; a field that isn't there is one end, which is missing
abbrev pub field_ends : (Tree → List (Option Tree)) → List ℕ → List (List ℕ × Tree) → List (Option Tree)
field_ends go s ps = option_map_or go (find s ps) (None ∷ [])

-- in an element of an array that is a document, the step is a field's name
abbrev pub named_ends : (Tree → List (Option Tree)) → List ℕ → Tree → List (Option Tree)
named_ends go s (leaf l) = []
named_ends go s (doc ps) = field_ends go s (entries ps)
named_ends go s (list ts) = []

-- the step may also be an element's decimal position
abbrev pub placed_ends : (Tree → List (Option Tree)) → List ℕ → ℕ → Tree → List (Option Tree)
placed_ends go s i t = if bytes_eq (decimal i) s then go t else []

-- in the elements from the i-th on
abbrev pub element_ends : (Tree → List (Option Tree)) → List ℕ → ℕ → List Tree → List (Option Tree)
element_ends go s i [] = []
element_ends go s i (t ∷ ts) = (named_ends go s t ++ placed_ends go s i t) ++ element_ends go s (suc i) ts

abbrev pub step_ends : (Tree → List (Option Tree)) → List ℕ → Tree → List (Option Tree)
step_ends go s (leaf l) = None ∷ []
step_ends go s (doc ps) = field_ends go s (entries ps)
step_ends go s (list ts) = element_ends go s 0 (members ts)

-- where a path ends, as a query sees it
abbrev pub ends : Steps → Tree → List (Option Tree)
ends [] t = Some t ∷ []
ends (s ∷ ss) t = step_ends (ends ss) s t

-- an end that is an array, followed by its elements
abbrev pub opened : Option Tree → List (Option Tree)
opened None = None ∷ []
opened (Some (leaf l)) = Some (leaf l) ∷ []
opened (Some (doc ps)) = Some (doc ps) ∷ []
opened (Some (list ts)) = Some (list ts) ∷ map Some (members ts)

-- what a test of a query looks at
abbrev pub candidates : Steps → Tree → List (Option Tree)
candidates ss t = flat_map opened (ends ss t)

-- changes a document within a value: the value itself or the elements of an array; what is no document becomes one
abbrev pub made_doc : (List (List ℕ × Tree) → List (List ℕ × Tree)) → Tree → Tree
made_doc go (leaf l) = doc (pairs_of (go []))
made_doc go (doc ps) = doc (pairs_of (go (entries ps)))
made_doc go (list ts) = doc (pairs_of (go []))

abbrev pub made_docs : (List (List ℕ × Tree) → List (List ℕ × Tree)) → Tree → Tree
made_docs go (leaf l) = doc (pairs_of (go []))
made_docs go (doc ps) = doc (pairs_of (go (entries ps)))
made_docs go (list ts) = list (trees_of (map (made_doc go) (members ts)))

-- the document with the value at the end of the path, made on the way where it is not there
abbrev pub set_at : Steps → Tree → List (List ℕ × Tree) → List (List ℕ × Tree)
set_at [] v ps = ps
set_at (s ∷ []) v ps = put s v ps
set_at (s ∷ t ∷ ss) v ps = put s (made_docs (set_at (t ∷ ss) v) (option_map_or (λ x. x) (find s ps) (doc no_pairs))) ps

-- changes the documents that a value is or that are elements of it, and leaves every other value
abbrev pub in_own : (List (List ℕ × Tree) → List (List ℕ × Tree)) → Tree → Tree
in_own go (leaf l) = leaf l
in_own go (doc ps) = doc (pairs_of (go (entries ps)))
in_own go (list ts) = list ts

abbrev pub in_each : (List (List ℕ × Tree) → List (List ℕ × Tree)) → Tree → Tree
in_each go (leaf l) = leaf l
in_each go (doc ps) = doc (pairs_of (go (entries ps)))
in_each go (list ts) = list (trees_of (map (in_own go) (members ts)))

-- the field's value changed, where it is there
abbrev pub at_field : List ℕ → (Tree → Tree) → List (List ℕ × Tree) → List (List ℕ × Tree)
at_field s go ps = option_map_or (λ v. put s (go v) ps) (find s ps) ps

-- the document without the field at the end of the path
abbrev pub unset : Steps → List (List ℕ × Tree) → List (List ℕ × Tree)
unset [] ps = ps
unset (s ∷ []) ps = without s ps
unset (s ∷ t ∷ ss) ps = at_field s (in_each (unset (t ∷ ss))) ps

-- the same, of a path's first step and the rest
abbrev pub removed : List ℕ → Steps → List (List ℕ × Tree) → List (List ℕ × Tree)
removed s [] ps = without s ps
removed s (t ∷ ss) ps = at_field s (in_each (unset (t ∷ ss))) ps

-- a path set to a value, or removed where there is none
abbrev pub set : Steps → Option Tree → List (List ℕ × Tree) → List (List ℕ × Tree)
set ss None ps = unset ss ps
set ss (Some v) ps = set_at ss v ps

abbrev pub is_end : Steps → Bool
is_end [] = true
is_end (s ∷ ss) = false

-- what follows a first step in the paths that begin with it
abbrev pub rest_behind : List ℕ → Steps → Option Steps
rest_behind n [] = None
rest_behind n (s ∷ ss) = if bytes_eq s n then Some ss else None

abbrev pub behind : List ℕ → List Steps → List Steps
behind n [] = []
behind n (p ∷ ps) = kept (rest_behind n p) (behind n ps)

-- a field's value, where paths lead to it: whole where one ends there, else what the rests of the paths leave of it
abbrev pub whole_or : List Steps → Tree → Option Tree → Option Tree
whole_or [] t part = None
whole_or (p ∷ ps) t part = if list_any is_end (p ∷ ps) then Some t else part

-- a field in front of others, where something of it is left
abbrev pub field_before : List ℕ → Option Tree → Pairs → Pairs
field_before n None ps = ps
field_before n (Some t) ps = pair n t ps

-- the document of the fields that the paths name, in their stored order; in an array, of the elements that are
-- documents; a scalar that a path doesn't end at is dropped
abbrev mutual
  pub keep_pairs : List Steps → Pairs → Pairs
  keep_pairs paths no_pairs = no_pairs
  keep_pairs paths (pair n t ps) = field_before n (whole_or (behind n paths) t (keep_part (behind n paths) t)) (keep_pairs paths ps)

  pub keep_part : List Steps → Tree → Option Tree
  keep_part paths (leaf l) = None
  keep_part paths (doc ps) = Some (doc (keep_pairs paths ps))
  keep_part paths (list ts) = Some (list (keep_docs paths ts))

  pub keep_docs : List Steps → Trees → Trees
  keep_docs paths no_trees = no_trees
  keep_docs paths (tree (leaf l) ts) = keep_docs paths ts
  keep_docs paths (tree (doc ps) ts) = tree (doc (keep_pairs paths ps)) (keep_docs paths ts)
  keep_docs paths (tree (list us) ts) = keep_docs paths ts

abbrev pub keep : List Steps → List (List ℕ × Tree) → List (List ℕ × Tree)
keep paths ps = entries (keep_pairs paths (pairs_of ps))

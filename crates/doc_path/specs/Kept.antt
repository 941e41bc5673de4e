-- Paths grouped by their first step, and what is kept of a document by such groups.
use Rattle.std.specs.Prelude.{ℕ, List, [], Option, None, Some, map, Vec}
use Rattle.std.specs.Option.{option_map_or}
use Rattle.std.specs.Ordering.{nat_cmp}
use Rattle.std.specs.Cmp.Lexicographic.{slice_cmp}
use Rattle.std.specs.BTreeMap.{BTreeMap, get_by}
use Rattle.bson_value.specs.Tree.{Tree, leaf, doc, list, Pairs, no_pairs, pair, Trees, no_trees, tree}
use Rattle.bson_value.specs.Paths.{Steps, whole_or, keep_part, field_before}
use denote.Ref.{Bor}

-- the paths that borrowed steps are
abbrev pub steps_in : List (Bor Steps) → List Steps
steps_in ps = map (λ p. p.now) ps

-- what follows a name in the paths of a group
abbrev pub rests_in : {A : Type 0} → BTreeMap (Bor (List ℕ)) (Vec (Bor Steps) A) → List ℕ → List Steps
rests_in m n = option_map_or (λ v. steps_in v.items) (get_by (λ k. slice_cmp nat_cmp n k.now) m) []

-- what is left of a field's value by the paths behind its name
abbrev pub left_of : List Steps → Tree → Option Tree
left_of rests t = whole_or rests t (keep_part rests t)

-- the fields of which something is left by the paths behind each name
abbrev pub kept_by : (List ℕ → List Steps) → Pairs → Pairs
kept_by go no_pairs = no_pairs
kept_by go (pair n t ps) = field_before n (left_of (go n) t) (kept_by go ps)

-- the same within an element of an array, where it is a document
abbrev pub doc_kept_by : (List ℕ → List Steps) → Tree → Option Tree
doc_kept_by go (leaf l) = None
doc_kept_by go (doc ps) = Some (doc (kept_by go ps))
doc_kept_by go (list ts) = None

abbrev pub tree_before : Option Tree → Trees → Trees
tree_before None ts = ts
tree_before (Some t) ts = tree t ts

abbrev pub docs_kept_by : (List ℕ → List Steps) → Trees → Trees
docs_kept_by go no_trees = no_trees
docs_kept_by go (tree t ts) = tree_before (doc_kept_by go t) (docs_kept_by go ts)

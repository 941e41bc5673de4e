-- Parts of an `$unwind`: what stands at its path, and a document whose array was taken out.
use Rattle.std.specs.Prelude.{ℕ, pos, List, [], ◌∷◌, Option, Some, None}
use Rattle.bson_value.specs.Tree.{Tree, Leaf, leaf, doc, list, null, long, Trees, no_trees, tree, pairs_of, entries}
use Rattle.bson_value.specs.Paths.{Steps, at_field}
use Rattle.stage_tree.specs.Outcome.{Fields}
use Rattle.reshape_stage.specs.declared.unwind.Stands.{Stands}
use Rattle.reshape_stage.specs.declared.unwind.Stands.TheVariants.{Nothing, Empty, Elements, Other}

-- the place of an element as a value, null where there is none
abbrev pub place_leaf : Option ℕ → Leaf
place_leaf None = null
place_leaf (Some n) = long (pos n)

abbrev pub array_stands : Trees → Stands
array_stands no_trees = Empty
array_stands (tree t ts) = Elements

abbrev pub stands : Option Tree → Stands
stands None = Nothing
stands (Some (leaf null)) = Nothing
stands (Some (leaf l)) = Other
stands (Some (doc ps)) = Other
stands (Some (list ts)) = array_stands ts

-- a document changed within a value; every other value stays
abbrev pub in_one : (Fields → Fields) → Tree → Tree
in_one go (leaf l) = leaf l
in_one go (doc ps) = doc (pairs_of (go (entries ps)))
in_one go (list ts) = list ts

-- null in the place of the value on the path's way through documents alone
abbrev pub emptied : Steps → Fields → Fields
emptied [] d = d
emptied (s ∷ []) d = at_field s (λ v. leaf null) d
emptied (s ∷ t ∷ ss) d = at_field s (in_one (emptied (t ∷ ss))) d

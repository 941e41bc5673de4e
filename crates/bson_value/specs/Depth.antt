-- How deep values are nested in a value.
use Rattle.std.specs.Prelude.{◌≡◌, ℕ, suc, ◌<◌, ◌≤◌, max, Option, Some, None}
use Rattle.bson_value.specs.Tree.{Tree, leaf, doc, list, Pairs, no_pairs, pair, Trees, no_trees, tree}

-- a scalar has depth 0, and a document or list one more than its deepest member, or 1 where it is empty
abbrev mutual
  pub depth : Tree → ℕ
  depth (leaf l) = 0
  depth (doc ps) = suc (pairs_depth ps)
  depth (list ts) = suc (trees_depth ts)

  pub pairs_depth : Pairs → ℕ
  pairs_depth no_pairs = 0
  pairs_depth (pair n t ps) = max (depth t) (pairs_depth ps)

  pub trees_depth : Trees → ℕ
  trees_depth no_trees = 0
  trees_depth (tree t ts) = max (depth t) (trees_depth ts)

-- the depth, or that it is greater than the cap
abbrev pub IsDepth : ℕ → ℕ → Option ℕ → Type 0
IsDepth cap deep None = cap < deep
IsDepth cap deep (Some n) = (n ≡ deep) × (deep ≤ cap)

-- A value as a collation sees it: texts that count as one are made one, at any depth. Names stay as they are.
use Rattle.std.specs.Prelude.{ℕ, List}
use Rattle.std.specs.Option.{option_map}
use Rattle.bson_value.specs.Tree.{Leaf, text, Tree, leaf, doc, list, Pairs, no_pairs, pair, Trees, no_trees, tree}
use Rattle.key_codec.specs.declared.collation.Collation.{Collation}
use Rattle.key_codec.specs.declared.collation.Collation.TheVariants.{Simple}
use Rattle.key_codec.specs.Keyed.{Part}

abbrev pub seen_text : Collation → List ℕ → List ℕ
seen_text Simple s = s

abbrev pub seen_leaf : Collation → Leaf → Leaf
seen_leaf k (text s) = text (seen_text k s)
seen_leaf k l = l

abbrev mutual
  pub seen : Collation → Tree → Tree
  seen k (leaf l) = leaf (seen_leaf k l)
  seen k (doc ps) = doc (seen_pairs k ps)
  seen k (list ts) = list (seen_trees k ts)

  pub seen_pairs : Collation → Pairs → Pairs
  seen_pairs k no_pairs = no_pairs
  seen_pairs k (pair n t ps) = pair n (seen k t) (seen_pairs k ps)

  pub seen_trees : Collation → Trees → Trees
  seen_trees k no_trees = no_trees
  seen_trees k (tree t ts) = tree (seen k t) (seen_trees k ts)

abbrev pub seen_part : Collation → Part → Part
seen_part k p = (p.0, option_map (seen k) p.1)

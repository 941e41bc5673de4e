-- What a collation leaves as it is.
use Rattle.std.proofs.Common.{◌≡◌, ℕ, ◌*◌, Some, None, refl, ap, ◌∙◌}
use Rattle.bson_value.specs.Tree.{Leaf, least, null, int, long, text, bin, id, flag, date, stamp, greatest, Tree, leaf, doc, list, Pairs, no_pairs, pair, Trees, no_trees, tree}
use Rattle.bson_value.specs.Order.{leaf_class}
use Rattle.key_codec.specs.declared.collation.Collation.{Collation}
use Rattle.key_codec.specs.declared.collation.Collation.TheVariants.{Simple}
use Rattle.key_codec.specs.Keyed.{Part, tag}
use Rattle.key_codec.specs.Seen.{seen_leaf, seen, seen_pairs, seen_trees, seen_part}

-- the simple one leaves all
seen_leaf-simple : (l : Leaf) → seen_leaf Simple l ≡ l
seen_leaf-simple least = refl
seen_leaf-simple null = refl
seen_leaf-simple (int n) = refl
seen_leaf-simple (long n) = refl
seen_leaf-simple (text s) = refl
seen_leaf-simple (bin j s) = refl
seen_leaf-simple (id s) = refl
seen_leaf-simple (flag b) = refl
seen_leaf-simple (date n) = refl
seen_leaf-simple (stamp n) = refl
seen_leaf-simple greatest = refl

mutual
  seen-simple : (t : Tree) → seen Simple t ≡ t
  seen-simple (leaf l) = ap leaf (seen_leaf-simple l)
  seen-simple (doc ps) = ap doc (seen_pairs-simple ps)
  seen-simple (list ts) = ap list (seen_trees-simple ts)

  seen_pairs-simple : (ps : Pairs) → seen_pairs Simple ps ≡ ps
  seen_pairs-simple no_pairs = refl
  seen_pairs-simple (pair n t ps) = ap (λ (u : Tree). pair n u (seen_pairs Simple ps)) (seen-simple t) ∙ ap (pair n t) (seen_pairs-simple ps)

  seen_trees-simple : (ts : Trees) → seen_trees Simple ts ≡ ts
  seen_trees-simple no_trees = refl
  seen_trees-simple (tree t ts) = ap (λ (u : Tree). tree u (seen_trees Simple ts)) (seen-simple t) ∙ ap (tree t) (seen_trees-simple ts)

pub seen_part-simple : (p : Part) → seen_part Simple p ≡ p
seen_part-simple (falls, None) = refl
seen_part-simple (falls, Some t) = ap (λ (u : Tree). (falls, Some u)) (seen-simple t)

-- each leaves the class
seen_leaf-class : (k : Collation) (l : Leaf) → leaf_class (seen_leaf k l) ≡ leaf_class l
seen_leaf-class k least = refl
seen_leaf-class k null = refl
seen_leaf-class k (int n) = refl
seen_leaf-class k (long n) = refl
seen_leaf-class k (text s) = refl
seen_leaf-class k (bin j s) = refl
seen_leaf-class k (id s) = refl
seen_leaf-class k (flag b) = refl
seen_leaf-class k (date n) = refl
seen_leaf-class k (stamp n) = refl
seen_leaf-class k greatest = refl

pub tag-seen : (k : Collation) (t : Tree) → tag (seen k t) ≡ tag t
tag-seen k (leaf l) = ap (λ (c : ℕ). 2 * c) (seen_leaf-class k l)
tag-seen k (doc ps) = refl
tag-seen k (list ts) = refl

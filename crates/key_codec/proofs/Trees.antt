-- Values.
use Rattle.std.proofs.Common.{◌≡◌, ℕ, ◌*◌, ◌<◌, List, [], ◌∷◌, ◌++◌, refl, sym, ap, subst, append_assoc, arith}
use Rattle.std.specs.Ordering.{nat_cmp, ordering_then}
use Rattle.std.specs.declared.cmp.Ordering.{Ordering}
use Rattle.std.specs.declared.cmp.Ordering.TheVariants.{Equal}
use Rattle.bson_value.specs.Tree.{Tree, leaf, doc, list, Pairs, no_pairs, pair, Trees, no_trees, tree}
use Rattle.bson_value.specs.Order.{class, leaf_class, bytes_order, order, pairs_order, trees_order}
use Rattle.bson_value.specs.Proper.{HasNoZero}
use Rattle.key_codec.specs.Fits.{Fits, PairsFit, TreesFit}
use Rattle.key_codec.specs.Keyed.{tag, body_key, pairs_key, trees_key}
use Rattle.key_codec.proofs.Tells.{Tells, then_assoc, then_Equal, less_tells, greater_tells, joined, behind, headed}
use Rattle.key_codec.proofs.Texts.{name_tells}
use Rattle.key_codec.proofs.Turned.{AreOctets, AreOctets-append}
use Rattle.key_codec.proofs.Octets.{AreOctets-bytes}
use Rattle.key_codec.proofs.Leaves.{is_head, leaf_tells}

pub class_some : (t : Tree) → Fits t → 0 < class t
class_some (leaf l) h = (is_head l h).some
class_some (doc ps) h = omega arith
class_some (list ts) h = omega arith

tag_some : (t : Tree) → Fits t → 0 < tag t
tag_some t h = omega (arith, class_some t h)

-- behind a class, what is held, in two steps
apart : (a b : ℕ) (o p : Ordering) (u v : List ℕ) → (a ≡ b → Tells (ordering_then o p) u v) → Tells (ordering_then (ordering_then (nat_cmp a b) o) p) (2 * a ∷ u) (2 * b ∷ v)
apart a b o p u v h = subst (λ q. Tells q (2 * a ∷ u) (2 * b ∷ v)) (sym (then_assoc (nat_cmp a b) o p)) (headed a b (ordering_then o p) u v h)

plain : {o : Ordering} {u v : List ℕ} → Tells o u v → Tells (ordering_then o Equal) u v
plain {o} h = rw (then_Equal o) h

pair_tells : (n m : List ℕ) (t u : Tree) → HasNoZero n → HasNoZero m → Tells (order t u) (tag t ∷ body_key t) (tag u ∷ body_key u)
    → Tells (ordering_then (nat_cmp (class t) (class u)) (ordering_then (bytes_order n m) (order t u))) (tag t ∷ (n ++ 0 ∷ body_key t)) (tag u ∷ (m ++ 0 ∷ body_key u))
pair_tells n m t u h k e =
    headed (class t) (class u) (ordering_then (bytes_order n m) (order t u)) (n ++ 0 ∷ body_key t) (m ++ 0 ∷ body_key u)
    (λ c. rw (sym (append_assoc n (0 ∷ []) (body_key t)), sym (append_assoc m (0 ∷ []) (body_key u)))
    (joined (name_tells n m h k) (behind (order t u) (tag t) (tag u) (body_key t) (body_key u) (ap (λ j. 2 * j) c) e)))

mutual
  pub tree_tells : (t u : Tree) → Fits t → Fits u → Tells (order t u) (tag t ∷ body_key t) (tag u ∷ body_key u)
  tree_tells (leaf k) (leaf l) h g = apart (leaf_class k) (leaf_class l) _ _ _ _ (λ e. plain (leaf_tells k l (is_head k h) (is_head l g) e))
  tree_tells (leaf k) (doc qs) h g = apart (leaf_class k) 5 _ _ _ _ (λ e. absurd ((is_head k h).no_doc e))
  tree_tells (leaf k) (list us) h g = apart (leaf_class k) 6 _ _ _ _ (λ e. absurd ((is_head k h).no_list e))
  tree_tells (doc ps) (leaf l) h g = apart 5 (leaf_class l) _ _ _ _ (λ e. absurd ((is_head l g).no_doc (sym e)))
  tree_tells (doc ps) (doc qs) h g = record { at = λ x y. (plain (pairs_tell ps qs h g)).at x y }
  tree_tells (doc ps) (list us) h g = less_tells 10 12 (pairs_key ps) (trees_key us) (omega arith)
  tree_tells (list ts) (leaf l) h g = apart 6 (leaf_class l) _ _ _ _ (λ e. absurd ((is_head l g).no_list (sym e)))
  tree_tells (list ts) (doc qs) h g = greater_tells 12 10 (trees_key ts) (pairs_key qs) (omega arith)
  tree_tells (list ts) (list us) h g = record { at = λ x y. (trees_tell ts us h g).at x y }

  pub pairs_tell : (ps qs : Pairs) → PairsFit ps → PairsFit qs → Tells (pairs_order ps qs) (pairs_key ps) (pairs_key qs)
  pairs_tell no_pairs no_pairs h g = record { at = λ x y. refl }
  pairs_tell no_pairs (pair m u qs) h g = less_tells 0 (tag u) [] ((m ++ 0 ∷ body_key u) ++ pairs_key qs) (tag_some u g.1)
  pairs_tell (pair n t ps) no_pairs h g = greater_tells (tag t) 0 ((n ++ 0 ∷ body_key t) ++ pairs_key ps) [] (tag_some t h.1)
  pairs_tell (pair n t ps) (pair m u qs) h g = joined (pair_tells n m t u h.0.no_zero g.0.no_zero (tree_tells t u h.1 g.1)) (pairs_tell ps qs h.2 g.2)

  pub trees_tell : (ts us : Trees) → TreesFit ts → TreesFit us → Tells (trees_order ts us) (trees_key ts) (trees_key us)
  trees_tell no_trees no_trees h g = record { at = λ x y. refl }
  trees_tell no_trees (tree u us) h g = less_tells 0 (tag u) [] (body_key u ++ trees_key us) (tag_some u g.0)
  trees_tell (tree t ts) no_trees h g = greater_tells (tag t) 0 (body_key t ++ trees_key ts) [] (tag_some t h.0)
  trees_tell (tree t ts) (tree u us) h g = joined (tree_tells t u h.0 g.0) (trees_tell ts us h.1 g.1)

-- keys are bytes
class_few : (t : Tree) → Fits t → class t < 13
class_few (leaf l) h = (is_head l h).few
class_few (doc ps) h = omega arith
class_few (list ts) h = omega arith

tag_few : (t : Tree) → Fits t → tag t < 256
tag_few t h = omega (arith, class_few t h)

mutual
  pub AreOctets-body : (t : Tree) → Fits t → AreOctets (body_key t)
  AreOctets-body (leaf l) h = (is_head l h).bytes
  AreOctets-body (doc ps) h = AreOctets-pairs ps h
  AreOctets-body (list ts) h = AreOctets-trees ts h

  pub AreOctets-pairs : (ps : Pairs) → PairsFit ps → AreOctets (pairs_key ps)
  AreOctets-pairs no_pairs h = (omega arith, tt)
  AreOctets-pairs (pair n t ps) h =
      AreOctets-append (tag t ∷ (n ++ 0 ∷ body_key t)) (pairs_key ps) (tag_few t h.1, AreOctets-append n (0 ∷ body_key t) (AreOctets-bytes n h.0.bytes) (omega arith, AreOctets-body t h.1)) (AreOctets-pairs ps h.2)

  pub AreOctets-trees : (ts : Trees) → TreesFit ts → AreOctets (trees_key ts)
  AreOctets-trees no_trees h = (omega arith, tt)
  AreOctets-trees (tree t ts) h = AreOctets-append (tag t ∷ body_key t) (trees_key ts) (tag_few t h.0, AreOctets-body t h.0) (AreOctets-trees ts h.1)

pub AreOctets-tree : (t : Tree) → Fits t → AreOctets (tag t ∷ body_key t)
AreOctets-tree t h = (tag_few t h, AreOctets-body t h)

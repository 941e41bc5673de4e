-- Values that compare equal have one digest.
use Rattle.std.proofs.Common.{◌≡◌, ℕ, refl, sym, ap, ◌∙◌}
use Rattle.std.specs.Ordering.{nat_cmp, int_cmp, ordering_then}
use Rattle.std.specs.Int.{cast_unsigned, w64}
use Rattle.std.proofs.lemmas.Map.Lookups.{exact_unsigned, exact_signed, exact_bytes}
use Rattle.std.specs.declared.cmp.Ordering.{Ordering}
use Rattle.std.specs.declared.cmp.Ordering.TheVariants.{Less, Equal, Greater}
use Rattle.bson_value.specs.Tree.{Tree, leaf, doc, list, Pairs, no_pairs, pair, Trees, no_trees, tree}
use Rattle.bson_value.specs.Order.{class, number, subtype, text_in, pairs_in, members_in, bytes_order, head_order, order, no_pairs_order, no_trees_order, pairs_order, trees_order}
use Rattle.std.specs.Prelude.{true}
use Rattle.std.specs.Cmp.{Equal-is}
use Rattle.bson_value.specs.SetRows.{same}
use Rattle.value_sets.specs.Digest.{mixed, mixed_bytes, head_digest, digest, pairs_digest, trees_digest}

first_equal : (o p : Ordering) → ordering_then o p ≡ Equal → o ≡ Equal
first_equal Less p e = e
first_equal Equal p e = refl
first_equal Greater p e = e

second_equal : (o p : Ordering) → ordering_then o p ≡ Equal → p ≡ Equal
second_equal Less p e = absurd cc
second_equal Equal p e = e
second_equal Greater p e = absurd cc

no_pairs_equal : (ps : Pairs) → no_pairs_order ps ≡ Equal → ps ≡ no_pairs
no_pairs_equal no_pairs e = refl
no_pairs_equal (pair n t ps) e = absurd cc

no_trees_equal : (ts : Trees) → no_trees_order ts ≡ Equal → ts ≡ no_trees
no_trees_equal no_trees e = refl
no_trees_equal (tree t ts) e = absurd cc

head_alike : (a b : Tree) → head_order a b ≡ Equal → head_digest a ≡ head_digest b
head_alike a b e =
    let by_class : class a ≡ class b = exact_unsigned (class a) (class b) (first_equal (nat_cmp (class a) (class b)) _ e) in
    let more = second_equal (nat_cmp (class a) (class b)) (ordering_then (int_cmp (number a) (number b)) (ordering_then (nat_cmp (subtype a) (subtype b)) (bytes_order (text_in a) (text_in b)))) e in
    let by_number : number a ≡ number b = exact_signed (number a) (number b) (first_equal (int_cmp (number a) (number b)) _ more) in
    let rest = second_equal (int_cmp (number a) (number b)) (ordering_then (nat_cmp (subtype a) (subtype b)) (bytes_order (text_in a) (text_in b))) more in
    let by_text : text_in a ≡ text_in b = exact_bytes (text_in a) (text_in b) (second_equal (nat_cmp (subtype a) (subtype b)) (bytes_order (text_in a) (text_in b)) rest) in
    λ i. mixed_bytes (mixed (by_class i) (cast_unsigned w64 (by_number i))) (by_text i)

-- the digest, by what the value holds
abbrev held_digest : ℕ → Pairs → Trees → ℕ
held_digest h ps ts = trees_digest (pairs_digest h ps) ts

by_held : (b : Tree) → held_digest (head_digest b) (pairs_in b) (members_in b) ≡ digest b
by_held (leaf l) = refl
by_held (doc ps) = refl
by_held (list ts) = refl

mutual
  pub alike : (a b : Tree) → order a b ≡ Equal → digest a ≡ digest b
  alike (leaf l) b e =
      let rest = second_equal (head_order (leaf l) b) (ordering_then (no_pairs_order (pairs_in b)) (no_trees_order (members_in b))) e in
      let head : head_digest (leaf l) ≡ head_digest b = head_alike (leaf l) b (first_equal (head_order (leaf l) b) _ e) in
      let pairs : pairs_in b ≡ no_pairs = no_pairs_equal (pairs_in b) (first_equal (no_pairs_order (pairs_in b)) _ rest) in
      let trees : members_in b ≡ no_trees = no_trees_equal (members_in b) (second_equal (no_pairs_order (pairs_in b)) (no_trees_order (members_in b)) rest) in
      head ∙ (λ i. held_digest (head_digest b) (sym pairs i) (sym trees i)) ∙ by_held b
  alike (doc ps) b e =
      let rest = second_equal (head_order (doc ps) b) (ordering_then (pairs_order ps (pairs_in b)) (no_trees_order (members_in b))) e in
      let head : head_digest (doc ps) ≡ head_digest b = head_alike (doc ps) b (first_equal (head_order (doc ps) b) _ e) in
      let trees : members_in b ≡ no_trees = no_trees_equal (members_in b) (second_equal (pairs_order ps (pairs_in b)) (no_trees_order (members_in b)) rest) in
      ap (λ h. pairs_digest h ps) head ∙ pairs_alike (head_digest b) ps (pairs_in b) (first_equal (pairs_order ps (pairs_in b)) _ rest) ∙ ap (held_digest (head_digest b) (pairs_in b)) (sym trees) ∙ by_held b
  alike (list ts) b e =
      let rest = second_equal (head_order (list ts) b) (ordering_then (no_pairs_order (pairs_in b)) (trees_order ts (members_in b))) e in
      let head : head_digest (list ts) ≡ head_digest b = head_alike (list ts) b (first_equal (head_order (list ts) b) _ e) in
      let pairs : pairs_in b ≡ no_pairs = no_pairs_equal (pairs_in b) (first_equal (no_pairs_order (pairs_in b)) _ rest) in
      ap (λ h. trees_digest h ts) head ∙ trees_alike (head_digest b) ts (members_in b) (second_equal (no_pairs_order (pairs_in b)) (trees_order ts (members_in b)) rest) ∙ ap (λ ps. held_digest (head_digest b) ps (members_in b)) (sym pairs) ∙ by_held b

  pairs_alike : (h : ℕ) (ps qs : Pairs) → pairs_order ps qs ≡ Equal → pairs_digest h ps ≡ pairs_digest h qs
  pairs_alike h no_pairs no_pairs e = refl
  pairs_alike h no_pairs (pair m u qs) e = absurd cc
  pairs_alike h (pair n t ps) no_pairs e = absurd cc
  pairs_alike h (pair n t ps) (pair m u qs) e =
      let o : Ordering = ordering_then (nat_cmp (class t) (class u)) (ordering_then (bytes_order n m) (order t u)) in
      let first = first_equal o (pairs_order ps qs) e in
      let rest = second_equal (nat_cmp (class t) (class u)) (ordering_then (bytes_order n m) (order t u)) first in
      let by_name : n ≡ m = exact_bytes n m (first_equal (bytes_order n m) (order t u) rest) in
      let by_value : digest t ≡ digest u = alike t u (second_equal (bytes_order n m) (order t u) rest) in
      (λ i. pairs_digest (mixed (mixed_bytes h (by_name i)) (by_value i)) ps) ∙ pairs_alike (mixed (mixed_bytes h m) (digest u)) ps qs (second_equal o (pairs_order ps qs) e)

  trees_alike : (h : ℕ) (ts us : Trees) → trees_order ts us ≡ Equal → trees_digest h ts ≡ trees_digest h us
  trees_alike h no_trees no_trees e = refl
  trees_alike h no_trees (tree u us) e = absurd cc
  trees_alike h (tree t ts) no_trees e = absurd cc
  trees_alike h (tree t ts) (tree u us) e =
      let by_value : digest t ≡ digest u = alike t u (first_equal (order t u) (trees_order ts us) e) in
      ap (λ d. trees_digest (mixed h d) ts) by_value ∙ trees_alike (mixed h (digest u)) ts us (second_equal (order t u) (trees_order ts us) e)

-- as a test
pub same_alike : (a b : Tree) → same a b ≡ true → digest a ≡ digest b
same_alike a b e = alike a b ((Equal-is (order a b)).0 e)

-- The laws of the order.
use Rattle.std.proofs.Common.{◌≡◌, ◌≢◌, ℕ, false, ◌⊎◌, inl, inr, ℤ, pos, List, [], ◌∷◌, ◌++◌, length, refl, sym, ap, ◌∙◌, arith}
use Rattle.std.specs.Prelude.{Option, Some, None, IsTrue}
use Rattle.std.specs.Ordering.{on, nat_cmp, int_cmp, ordering_then, ordering_reverse, is_le, is_gt}
use Rattle.std.specs.Cmp.{IsTotalOrder}
use Rattle.std.specs.Cmp.Lexicographic.{slice_cmp}
use Rattle.std.proofs.lemmas.Cmp.{upto, tied_itself, eq_by_cmp_equiv, on_total, lists_total}
use Rattle.std.proofs.lemmas.Bool.Decides.{nat_tests}
use Rattle.std.specs.declared.cmp.Ordering.{Ordering}
use Rattle.std.specs.declared.cmp.Ordering.TheVariants.{Less, Equal, Greater}
use Rattle.bson_value.specs.Tree.{least, null, int, long, text, bin, id, flag, date, stamp, greatest, Tree, leaf, doc, list, pairs_of, trees_of}
use Rattle.bson_value.specs.Order.{class, order, found_order, head_order, bytes_order, pair_order, pairs_order}
use Rattle.bson_value.specs.Laws.{IsTotalPreorder, IsComparisonOrder}
use Rattle.bson_value.proofs.Distinct.{entries_pairs, members_trees}
use Rattle.bson_value.proofs.Total.{entry_total, order_total, pairs_listed, trees_listed}

either_le : (o p : Ordering) → o ≡ ordering_reverse p → IsTrue (is_le o) ⊎ IsTrue (is_le p)
either_le Less p e = inl refl
either_le Equal p e = inl refl
either_le Greater Less e = inr refl
either_le Greater Equal e = absurd cc
either_le Greater Greater e = absurd cc

not_gt : (o : Ordering) → IsTrue (is_le o) → is_gt o ≡ false
not_gt Less h = refl
not_gt Equal h = refl
not_gt Greater h = absurd cc

is_le-not_gt : (o : Ordering) → is_gt o ≡ false → IsTrue (is_le o)
is_le-not_gt Less h = refl
is_le-not_gt Equal h = refl
is_le-not_gt Greater h = absurd cc

pub preorder : {K : Type 0} {R : K → K → Ordering} → IsTotalOrder R → IsTotalPreorder R
preorder {R = R} h = record {
  reflexive = tied_itself h;
  mirrored = h.antisymm;
  connected = λ x y. either_le (R x y) (R y x) (h.antisymm x y);
  transitive = λ x y z a b. is_le-not_gt (R x z) (upto h x y z (not_gt (R x y) a) (not_gt (R y z) b));
  equal = eq_by_cmp_equiv h;
}

-- missing as a list: that of the least value and one more
abbrev listed : Option Tree → List Tree
listed (Some t) = t ∷ []
listed None = leaf least ∷ leaf least ∷ []

then_equal : (o : Ordering) → o ≡ ordering_then o Equal
then_equal Less = refl
then_equal Equal = refl
then_equal Greater = refl

found_listed : (x y : Option Tree) → found_order x y ≡ slice_cmp order (listed x) (listed y)
found_listed (Some a) (Some b) = then_equal (order a b)
found_listed None None = refl
found_listed (Some (leaf least)) None = refl
found_listed (Some (leaf null)) None = refl
found_listed (Some (leaf (int n))) None = refl
found_listed (Some (leaf (long n))) None = refl
found_listed (Some (leaf (text s))) None = refl
found_listed (Some (leaf (bin k s))) None = refl
found_listed (Some (leaf (id s))) None = refl
found_listed (Some (leaf (flag b))) None = refl
found_listed (Some (leaf (date n))) None = refl
found_listed (Some (leaf (stamp n))) None = refl
found_listed (Some (leaf greatest)) None = refl
found_listed (Some (doc ps)) None = refl
found_listed (Some (list ts)) None = refl
found_listed None (Some (leaf least)) = refl
found_listed None (Some (leaf null)) = refl
found_listed None (Some (leaf (int n))) = refl
found_listed None (Some (leaf (long n))) = refl
found_listed None (Some (leaf (text s))) = refl
found_listed None (Some (leaf (bin k s))) = refl
found_listed None (Some (leaf (id s))) = refl
found_listed None (Some (leaf (flag b))) = refl
found_listed None (Some (leaf (date n))) = refl
found_listed None (Some (leaf (stamp n))) = refl
found_listed None (Some (leaf greatest)) = refl
found_listed None (Some (doc ps)) = refl
found_listed None (Some (list ts)) = refl

same_total : {K : Type 0} (R S : K → K → Ordering) → ((x y : K) → R x y ≡ S x y) → IsTotalOrder S → IsTotalOrder R
same_total R S e h = record {
  antisymm = λ x y. e x y ∙ h.antisymm x y ∙ ap ordering_reverse (sym (e y x));
  trans = λ x y z a b. e x z ∙ h.trans x y z (sym (e x y) ∙ a) (sym (e y z) ∙ b);
  congr = λ x y z a. e x z ∙ h.congr x y z (sym (e x y) ∙ a) ∙ sym (e y z);
}

pub found_total : IsTotalOrder found_order
found_total = same_total found_order (on listed (slice_cmp order)) found_listed (on_total listed (lists_total order_total))

kept : (o more : Ordering) → o ≢ Equal → ordering_then o more ≡ o
kept Less more ne = refl
kept Equal more ne = absurd (ne refl)
kept Greater more ne = refl

nat_differ : (m n : ℕ) → m ≢ n → nat_cmp m n ≢ Equal
nat_differ m n ne e = grind (arith, nat_tests)

heads_differ : (a b : Tree) (more : Ordering) → class a ≢ class b → ordering_then (head_order a b) more ≡ nat_cmp (class a) (class b)
heads_differ a b more ne = let differ = nat_differ (class a) (class b) ne in rw (kept (nat_cmp (class a) (class b)) _ differ) (kept (nat_cmp (class a) (class b)) more differ)

classes : (a b : Tree) → class a ≢ class b → order a b ≡ nat_cmp (class a) (class b)
classes (leaf l) b ne = heads_differ (leaf l) b _ ne
classes (doc ps) b ne = heads_differ (doc ps) b _ ne
classes (list ts) b ne = heads_differ (list ts) b _ ne

then_nothing : (o : Ordering) → ordering_then o (ordering_then Equal Equal) ≡ o
then_nothing Less = refl
then_nothing Equal = refl
then_nothing Greater = refl

by_number : (m n : ℤ) → ordering_then (ordering_then (int_cmp m n) Equal) Equal ≡ int_cmp m n
by_number m n = elim (int_cmp m n) as (λ o. ordering_then (ordering_then o Equal) Equal ≡ o) [ Less ↦ refl | Equal ↦ refl | Greater ↦ refl ]

shorter : {A : Type 0} (R : A → A → Ordering) → IsTotalOrder R → (xs ys : List A) (y : A) → slice_cmp R xs (xs ++ y ∷ ys) ≡ Less
shorter R h [] ys y = refl
shorter R h (x ∷ xs) ys y = rw (tied_itself h x) (shorter R h xs ys y)

pairs_total : IsTotalOrder pair_order
pairs_total = entry_total order order_total

docs : (ps qs : List (List ℕ × Tree)) → order (doc (pairs_of ps)) (doc (pairs_of qs)) ≡ slice_cmp pair_order ps qs
docs ps qs = sym (then_equal (pairs_order (pairs_of ps) (pairs_of qs))) ∙ pairs_listed (pairs_of ps) (pairs_of qs) ∙ rw (entries_pairs ps, entries_pairs qs) refl

lists : (ts us : List Tree) → order (list (trees_of ts)) (list (trees_of us)) ≡ slice_cmp order ts us
lists ts us = trees_listed (trees_of ts) (trees_of us) ∙ rw (members_trees ts, members_trees us) refl

counts : (m n : ℕ) → int_cmp (pos m) (pos n) ≡ nat_cmp m n
counts m n = grind (arith, nat_tests)

pub comparison : IsComparisonOrder order
comparison = record {
  classes = classes;
  least_alone = refl;
  null_alone = refl;
  greatest_alone = refl;
  int_int = by_number;
  int_long = by_number;
  long_int = by_number;
  long_long = by_number;
  texts = λ s t. sym (then_equal (bytes_order s t));
  docs = docs;
  shorter_doc = λ ps qs p. docs ps (ps ++ p ∷ qs) ∙ shorter pair_order pairs_total ps qs p;
  lists = lists;
  shorter_list = λ ts us t. lists ts (ts ++ t ∷ us) ∙ shorter order order_total ts us t;
  bins = λ j k s t. sym (then_equal _) ∙ ap (λ (o : Ordering). ordering_then o (ordering_then (nat_cmp j k) (bytes_order s t))) (counts (length s) (length t));
  ids = λ s t. sym (then_equal (bytes_order s t));
  false_below_true = refl;
  dates = by_number;
  stamps = λ m n. by_number (pos m) (pos n) ∙ counts m n;
}

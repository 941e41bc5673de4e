-- What the comparison order is, said from outside (the manual, Comparison and Sort Order).
use Rattle.std.specs.Prelude.{◌≡◌, ◌≢◌, ℕ, ℤ, ◌⊎◌, true, false, List, ◌∷◌, ◌++◌, length, IsTrue}
use Rattle.std.specs.Ordering.{nat_cmp, int_cmp, ordering_then, ordering_reverse, is_le, eq_by_cmp}
use Rattle.std.specs.Cmp.{IsEquivalence}
use Rattle.std.specs.Cmp.Lexicographic.{slice_cmp}
use Rattle.std.specs.declared.cmp.Ordering.{Ordering}
use Rattle.std.specs.declared.cmp.Ordering.TheVariants.{Less, Equal}
use Rattle.bson_value.specs.Tree.{least, null, int, long, text, bin, id, flag, date, stamp, greatest, Tree, leaf, doc, list, pairs_of, trees_of}
use Rattle.bson_value.specs.Order.{class, bytes_order}

-- a total preorder: each two are comparable, and what is equal in it is an equivalence
pub record IsTotalPreorder {K : Type 0} (R : K → K → Ordering) : Type 0 where
  pub reflexive : (x : K) → R x x ≡ Equal
  pub mirrored : (x y : K) → R x y ≡ ordering_reverse (R y x)
  pub connected : (x y : K) → IsTrue (is_le (R x y)) ⊎ IsTrue (is_le (R y x))
  pub transitive : (x y z : K) → IsTrue (is_le (R x y)) → IsTrue (is_le (R y z)) → IsTrue (is_le (R x z))
  pub equal : IsEquivalence (eq_by_cmp R)

-- a pair is compared by its value's class, its name and its value
abbrev pub by_pair : (Tree → Tree → Ordering) → List ℕ × Tree → List ℕ × Tree → Ordering
by_pair R p q = ordering_then (nat_cmp (class p.1) (class q.1)) (ordering_then (bytes_order p.0 q.0) (R p.1 q.1))

-- the classes' order, and that within each class
pub record IsComparisonOrder (R : Tree → Tree → Ordering) : Type 0 where
  pub classes : (a b : Tree) → class a ≢ class b → R a b ≡ nat_cmp (class a) (class b)
  pub least_alone : R (leaf least) (leaf least) ≡ Equal
  pub null_alone : R (leaf null) (leaf null) ≡ Equal
  pub greatest_alone : R (leaf greatest) (leaf greatest) ≡ Equal
  pub int_int : (m n : ℤ) → R (leaf (int m)) (leaf (int n)) ≡ int_cmp m n
  pub int_long : (m n : ℤ) → R (leaf (int m)) (leaf (long n)) ≡ int_cmp m n
  pub long_int : (m n : ℤ) → R (leaf (long m)) (leaf (int n)) ≡ int_cmp m n
  pub long_long : (m n : ℤ) → R (leaf (long m)) (leaf (long n)) ≡ int_cmp m n
  pub texts : (s t : List ℕ) → R (leaf (text s)) (leaf (text t)) ≡ bytes_order s t
  pub docs : (ps qs : List (List ℕ × Tree)) → R (doc (pairs_of ps)) (doc (pairs_of qs)) ≡ slice_cmp (by_pair R) ps qs
  pub shorter_doc : (ps qs : List (List ℕ × Tree)) (p : List ℕ × Tree) → R (doc (pairs_of ps)) (doc (pairs_of (ps ++ p ∷ qs))) ≡ Less
  pub lists : (ts us : List Tree) → R (list (trees_of ts)) (list (trees_of us)) ≡ slice_cmp R ts us
  pub shorter_list : (ts us : List Tree) (t : Tree) → R (list (trees_of ts)) (list (trees_of (ts ++ t ∷ us))) ≡ Less
  pub bins : (j k : ℕ) (s t : List ℕ) → R (leaf (bin j s)) (leaf (bin k t)) ≡ ordering_then (nat_cmp (length s) (length t)) (ordering_then (nat_cmp j k) (bytes_order s t))
  pub ids : (s t : List ℕ) → R (leaf (id s)) (leaf (id t)) ≡ bytes_order s t
  pub false_below_true : R (leaf (flag false)) (leaf (flag true)) ≡ Less
  pub dates : (m n : ℤ) → R (leaf (date m)) (leaf (date n)) ≡ int_cmp m n
  pub stamps : (m n : ℕ) → R (leaf (stamp m)) (leaf (stamp n)) ≡ nat_cmp m n

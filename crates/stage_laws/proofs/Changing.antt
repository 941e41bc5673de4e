-- Documents in which paths are set, removed and kept.
use Rattle.std.proofs.Common.{◌≡◌, ℕ, ◌+◌, ◌-◌, ◌*◌, ◌<◌, ◌≤◌, Bool, true, false, cond, List, [], ◌∷◌, map, length, refl, arith}
use Rattle.std.specs.Prelude.{Option, Some, None}
use Rattle.std.specs.Option.{IfSome, option_and_then, option_map_or}
use Rattle.std.specs.List.{list_any}
use Rattle.bson_value.specs.Tree.{Tree, leaf, doc, list, Pairs, no_pairs, pair, Trees, no_trees, tree, pairs_of, trees_of, entries, members}
use Rattle.bson_value.specs.Depth.{depth, pairs_depth, trees_depth}
use Rattle.bson_value.specs.Pairs.{find, put}
use Rattle.bson_value.specs.Paths.{Steps, plain, made_doc, made_docs, set_at, in_own, in_each, unset, set, is_end, behind, whole_or, field_before, keep_pairs, keep_part, keep_docs, keep}
use Rattle.stage_laws.proofs.Inside.{EachField, IsInside, map_each, each_put, each_find, each_without, each_weaker, in_members, in_entries, list_depth, doc_depth}

abbrev pub FieldsInside : ℕ → List (List ℕ × Tree) → Type 0
FieldsInside n ps = EachField (IsInside n) ps

-- a change of fields that leaves each nested less deep than n
abbrev pub Holds : ℕ → (List (List ℕ × Tree) → List (List ℕ × Tree)) → Type 0
Holds n go = (ps : List (List ℕ × Tree)) → FieldsInside n ps → FieldsInside n (go ps)

-- ---- set

made_doc_inside : (n : ℕ) (go : List (List ℕ × Tree) → List (List ℕ × Tree)) → ((m : ℕ) → n ≤ m → Holds m go) → (t : Tree) (m : ℕ) → 0 < m → n ≤ m → depth t ≤ m → depth (made_doc go t) ≤ m
made_doc_inside n go h (leaf l) m lt le k = doc_depth m (go []) lt (h m le [] tt)
made_doc_inside n go h (doc ps) m lt le k = doc_depth m (go (entries ps)) lt (h m le (entries ps) (in_entries m ps k))
made_doc_inside n go h (list ts) m lt le k = doc_depth m (go []) lt (h m le [] tt)

made_docs_inside : (n : ℕ) (go : List (List ℕ × Tree) → List (List ℕ × Tree)) → ((m : ℕ) → n ≤ m → Holds m go) → (t : Tree) (m : ℕ) → 0 < n → n + 2 ≤ m → IsInside m t → IsInside m (made_docs go t)
made_docs_inside n go h (leaf l) m lt le k = let d : depth (doc (pairs_of (go []))) ≤ n = doc_depth n (go []) lt (h n (omega arith) [] tt) in omega arith
made_docs_inside n go h (doc ps) m lt le k =
    let d : depth (doc (pairs_of (go (entries ps)))) ≤ m - 1 = made_doc_inside n go h (doc ps) (m - 1) (omega arith) (omega arith) (omega arith) in omega arith
made_docs_inside n go h (list ts) m lt le k =
    let d : depth (list (trees_of (map (made_doc go) (members ts)))) ≤ m - 1 =
    list_depth (m - 1) (map (made_doc go) (members ts)) (omega arith)
    (map_each (IsInside (m - 1)) (made_doc go) (members ts)
    (each_weaker (IsInside (m - 1)) (λ t. IsInside (m - 1) (made_doc go t)) (λ t lt2. let e : depth (made_doc go t) ≤ m - 2 = made_doc_inside n go h t (m - 2) (omega arith) (omega arith) (omega arith) in omega arith) (members ts) (in_members (m - 1) ts (omega arith)))) in
    omega arith

or_empty_inside : (n : ℕ) (o : Option Tree) → 1 < n → IfSome o (IsInside n) → IsInside n (option_map_or (λ (x : Tree). x) o (doc no_pairs))
or_empty_inside n None lt h = omega arith
or_empty_inside n (Some t) lt h = h

-- each step but the first can lead through an array and a document in it
pub set_at_inside : (ss : Steps) (v : Tree) (n : ℕ) → (2 * length ss - 1) + depth v ≤ n → Holds n (set_at ss v)
set_at_inside [] v n le ps h = h
set_at_inside (s ∷ []) v n le ps h = each_put (IsInside n) s v ps (omega arith) h
set_at_inside (s ∷ t ∷ ss) v n le ps h =
    each_put (IsInside n) s (made_docs (set_at (t ∷ ss) v) (option_map_or (λ (x : Tree). x) (find s ps) (doc no_pairs))) ps
    (made_docs_inside ((2 * length (t ∷ ss) - 1) + depth v) (set_at (t ∷ ss) v) (λ m le2. set_at_inside (t ∷ ss) v m le2) (option_map_or (λ (x : Tree). x) (find s ps) (doc no_pairs)) n (omega arith) (omega arith)
    (or_empty_inside n (find s ps) (omega arith) (each_find (IsInside n) s ps h))) h

-- ---- removed

in_own_depth : (go : List (List ℕ × Tree) → List (List ℕ × Tree)) → ((m : ℕ) → Holds m go) → (t : Tree) → depth (in_own go t) ≤ depth t
in_own_depth go h (leaf l) = omega arith
in_own_depth go h (doc ps) = doc_depth (depth (doc ps)) (go (entries ps)) (omega arith) (h (depth (doc ps)) (entries ps) (in_entries (depth (doc ps)) ps (omega arith)))
in_own_depth go h (list ts) = omega arith

in_each_depth : (go : List (List ℕ × Tree) → List (List ℕ × Tree)) → ((m : ℕ) → Holds m go) → (t : Tree) → depth (in_each go t) ≤ depth t
in_each_depth go h (leaf l) = omega arith
in_each_depth go h (doc ps) = doc_depth (depth (doc ps)) (go (entries ps)) (omega arith) (h (depth (doc ps)) (entries ps) (in_entries (depth (doc ps)) ps (omega arith)))
in_each_depth go h (list ts) =
    list_depth (depth (list ts)) (map (in_own go) (members ts)) (omega arith)
    (map_each (IsInside (depth (list ts))) (in_own go) (members ts)
    (each_weaker (IsInside (depth (list ts))) (λ t. IsInside (depth (list ts)) (in_own go t)) (λ t lt. omega (arith, in_own_depth go h t)) (members ts) (in_members (depth (list ts)) ts (omega arith))))

at_found : (n : ℕ) (s : List ℕ) (go : Tree → Tree) (ps : List (List ℕ × Tree)) (o : Option Tree) → ((t : Tree) → depth (go t) ≤ depth t) → IfSome o (IsInside n) → FieldsInside n ps → FieldsInside n (option_map_or (λ v. put s (go v) ps) o ps)
at_found n s go ps None f k h = h
at_found n s go ps (Some v) f k h = each_put (IsInside n) s (go v) ps (omega (arith, f v)) h

pub unset_inside : (ss : Steps) (n : ℕ) → Holds n (unset ss)
unset_inside [] n ps h = h
unset_inside (s ∷ []) n ps h = each_without (IsInside n) s ps h
unset_inside (s ∷ t ∷ ss) n ps h = at_found n s (in_each (unset (t ∷ ss))) ps (find s ps) (in_each_depth (unset (t ∷ ss)) (unset_inside (t ∷ ss))) (each_find (IsInside n) s ps h) h

pub set_inside : (ss : Steps) (v : Option Tree) (n : ℕ) → IfSome v (λ t. (2 * length ss - 1) + depth t ≤ n) → Holds n (set ss v)
set_inside ss None n h ps k = unset_inside ss n ps k
set_inside ss (Some t) n h ps k = set_at_inside ss t n h ps k

-- ---- kept

before_depth : (n : ℕ) (x : List ℕ) (o : Option Tree) (ps : Pairs) → IfSome o (λ t. depth t ≤ n) → pairs_depth ps ≤ n → pairs_depth (field_before x o ps) ≤ n
before_depth n x None ps h k = k
before_depth n x (Some t) ps h k = omega arith

whole_if : (b : Bool) (n : ℕ) (t : Tree) (part : Option Tree) → depth t ≤ n → IfSome part (λ u. depth u ≤ n) → IfSome (cond b (Some t) part) (λ u. depth u ≤ n)
whole_if true n t part h k = h
whole_if false n t part h k = k

whole_depth : (n : ℕ) (qs : List Steps) (t : Tree) (part : Option Tree) → depth t ≤ n → IfSome part (λ u. depth u ≤ n) → IfSome (whole_or qs t part) (λ u. depth u ≤ n)
whole_depth n [] t part h k = tt
whole_depth n (q ∷ qs) t part h k = whole_if (list_any is_end (q ∷ qs)) n t part h k

mutual
  keep_pairs_depth : (qs : List Steps) (ps : Pairs) → pairs_depth (keep_pairs qs ps) ≤ pairs_depth ps
  keep_pairs_depth qs no_pairs = omega arith
  keep_pairs_depth qs (pair x t ps) =
      before_depth (pairs_depth (pair x t ps)) x (whole_or (behind x qs) t (keep_part (behind x qs) t)) (keep_pairs qs ps)
      (whole_depth (pairs_depth (pair x t ps)) (behind x qs) t (keep_part (behind x qs) t) (omega arith) (keep_part_depth (behind x qs) t (pairs_depth (pair x t ps)) (omega arith)))
      (omega (arith, keep_pairs_depth qs ps))

  keep_part_depth : (qs : List Steps) (t : Tree) (n : ℕ) → depth t ≤ n → IfSome (keep_part qs t) (λ u. depth u ≤ n)
  keep_part_depth qs (leaf l) n h = tt
  keep_part_depth qs (doc ps) n h = omega (arith, keep_pairs_depth qs ps)
  keep_part_depth qs (list ts) n h = omega (arith, keep_docs_depth qs ts)

  keep_docs_depth : (qs : List Steps) (ts : Trees) → trees_depth (keep_docs qs ts) ≤ trees_depth ts
  keep_docs_depth qs no_trees = omega arith
  keep_docs_depth qs (tree (leaf l) ts) = omega (arith, keep_docs_depth qs ts)
  keep_docs_depth qs (tree (doc ps) ts) = omega (arith, keep_pairs_depth qs ps, keep_docs_depth qs ts)
  keep_docs_depth qs (tree (list us) ts) = omega (arith, keep_docs_depth qs ts)

pub keep_inside : (qs : List Steps) (n : ℕ) (ps : List (List ℕ × Tree)) → depth (doc (pairs_of ps)) ≤ n → FieldsInside n (keep qs ps)
keep_inside qs n ps h = in_entries n (keep_pairs qs (pairs_of ps)) (omega (arith, keep_pairs_depth qs (pairs_of ps)))

-- ---- a value in the place of one that is nested as deep

replaced_in_own : (go : List (List ℕ × Tree) → List (List ℕ × Tree)) (ps : Pairs) (n : ℕ) → ((m : ℕ) → FieldsInside m (entries ps) → FieldsInside m (go (entries ps))) → IsInside n (doc ps) → IsInside n (made_docs go (doc ps))
replaced_in_own go ps n h lt =
    let d : depth (doc (pairs_of (go (entries ps)))) ≤ depth (doc ps) = doc_depth (depth (doc ps)) (go (entries ps)) (omega arith) (h (depth (doc ps)) (in_entries (depth (doc ps)) ps (omega arith))) in
    omega arith

found_some : {A : Type 0} (o : Option A) (P : A → Type 0) (x : A) → o ≡ Some x → IfSome o P → P x
found_some o P x e h = rw e at h

field_replaced : (s t : List ℕ) (ss : Steps) (u v : Tree) (n : ℕ) (ps : List (List ℕ × Tree)) (o : Option Tree) → find s ps ≡ o → option_and_then (plain (t ∷ ss)) o ≡ Some u
    → ((qs : List (List ℕ × Tree)) (m : ℕ) → option_and_then (plain ss) (find t qs) ≡ Some u → FieldsInside m qs → FieldsInside m (set_at (t ∷ ss) v qs))
    → FieldsInside n ps → FieldsInside n (put s (made_docs (set_at (t ∷ ss) v) (option_map_or (λ (x : Tree). x) o (doc no_pairs))) ps)
field_replaced s t ss u v n ps None e f rest h = absurd (cc)
field_replaced s t ss u v n ps (Some (leaf l)) e f rest h = absurd (cc)
field_replaced s t ss u v n ps (Some (list ts)) e f rest h = absurd (cc)
field_replaced s t ss u v n ps (Some (doc qs)) e f rest h =
    each_put (IsInside n) s (made_docs (set_at (t ∷ ss) v) (doc qs)) ps
    (replaced_in_own (set_at (t ∷ ss) v) qs n (λ m k. rest (entries qs) m f k) (found_some (find s ps) (IsInside n) (doc qs) e (each_find (IsInside n) s ps h))) h

same_end : (o : Option Tree) (u : Tree) → option_and_then (plain []) o ≡ Some u → o ≡ Some u
same_end None u e = e
same_end (Some t) u e = e

-- a field's value at the end of a way through documents alone
pub replaced_inside : (s : List ℕ) (ss : Steps) (u v : Tree) (n : ℕ) (ps : List (List ℕ × Tree)) → depth v ≤ depth u → option_and_then (plain ss) (find s ps) ≡ Some u → FieldsInside n ps → FieldsInside n (set_at (s ∷ ss) v ps)
replaced_inside s [] u v n ps le e h = let lt : IsInside n u = found_some (find s ps) (IsInside n) u (same_end (find s ps) u e) (each_find (IsInside n) s ps h) in each_put (IsInside n) s v ps (omega arith) h
replaced_inside s (t ∷ ss) u v n ps le e h = field_replaced s t ss u v n ps (find s ps) refl e (λ qs m f k. replaced_inside t ss u v m qs le f k) h

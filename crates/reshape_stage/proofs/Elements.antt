-- `$unwind`: an array that is taken out of its document, and the documents of its elements.
use Rattle.std.proofs.Common.{◌≡◌, ℕ, zero, suc, ◌<◌, ◌≤◌, Bool, true, false, cond, List, [], ◌∷◌, ◌++◌, length, get_or, refl, sym, ap, ◌∙◌, arith, append_assoc}
use Rattle.std.specs.Prelude.{Option, Some, None, pos, slice_get}
use Rattle.std.specs.Str.{bytes_eq}
use Rattle.std.proofs.lemmas.Slice.Eq.{bytes_eq-Decides}
use Rattle.std.specs.Option.{option_map, option_map_or, option_and_then}
use Rattle.bson_value.specs.Tree.{Tree, Leaf, leaf, doc, list, null, long, Trees, no_trees, tree, pairs_of, trees_of, entries}
use Rattle.bson_value.specs.View.{tree_of}
use Rattle.bson_value.specs.declared.value.Value.{Value}
use Rattle.bson_value.specs.declared.value.Value.TheVariants as V
use Rattle.bson_value.specs.Pairs.{find, put, with_value, IsAt, IsMissing}
use Rattle.bson_value.specs.Paths.{Steps, plain, field_plain, set, set_at, made_docs, at_field}
use Rattle.doc_path.proofs.Steps.{entries_pairs, rest_of}
use Rattle.doc_path.proofs.Changed.{cons_rest}
use Rattle.reshape_stage.specs.declared.unwind.Stands.TheVariants.{Elements, Empty}
use Rattle.stage_tree.specs.Outcome.{Fields}
use Rattle.stage_tree.specs.Rows.{with_index, unwound, unwind_value}
use Rattle.reshape_stage.specs.Unwound.{in_one, emptied, array_stands, stands}

same_name : (k : List ℕ) → bytes_eq k k ≡ true
same_name k = (bytes_eq-Decides k k).1 refl

find_put : (k : List ℕ) (x : Tree) (ps : Fields) → find k (put k x ps) ≡ Some x
find_put k x [] = rw (same_name k) refl
find_put k x (p ∷ ps) =
    elim (bytes_eq p.0 k) as (λ b. bytes_eq p.0 k ≡ b → find k (cond b ((k, x) ∷ ps) (p ∷ put k x ps)) ≡ Some x) [
      | true ↦ λ e. rw (same_name k) refl
      | false ↦ λ e. rw e (find_put k x ps)
    ] refl

put_put : (k : List ℕ) (x y : Tree) (ps : Fields) → put k y (put k x ps) ≡ put k y ps
put_put k x y [] = rw (same_name k) refl
put_put k x y (p ∷ ps) =
    elim (bytes_eq p.0 k) as (λ b. bytes_eq p.0 k ≡ b → put k y (cond b ((k, x) ∷ ps) (p ∷ put k x ps)) ≡ cond b ((k, y) ∷ ps) (p ∷ put k y ps)) [
      | true ↦ λ e. rw (same_name k) refl
      | false ↦ λ e. rw e (ap (λ (l : Fields). p ∷ l) (put_put k x y ps))
    ] refl

-- a path that was emptied is set as before
module _ (w v : Tree) where
  set_last : (s : List ℕ) (d : Fields) (o : Option Tree) → option_and_then (plain []) o ≡ Some v → put s w (option_map_or (λ x. put s (leaf null) d) o d) ≡ put s w d
  set_last s d None h = absurd cc
  set_last s d (Some u) h = put_put s (leaf null) w d

  set_below : (s t : List ℕ) (ss : Steps) (d : Fields) (o : Option Tree) →
      ((e : Fields) → field_plain t ss e ≡ Some v → set_at (t ∷ ss) w (emptied (t ∷ ss) e) ≡ set_at (t ∷ ss) w e) →
      option_and_then (plain (t ∷ ss)) o ≡ Some v →
      put s (made_docs (set_at (t ∷ ss) w) (option_map_or (λ x. x) (find s (option_map_or (λ u. put s (in_one (emptied (t ∷ ss)) u) d) o d)) (doc (pairs_of [])))) (option_map_or (λ u. put s (in_one (emptied (t ∷ ss)) u) d) o d)
      ≡ put s (made_docs (set_at (t ∷ ss) w) (option_map_or (λ x. x) o (doc (pairs_of [])))) d
  set_below s t ss d None deeper h = absurd cc
  set_below s t ss d (Some (leaf l)) deeper h = absurd cc
  set_below s t ss d (Some (list ts)) deeper h = absurd cc
  set_below s t ss d (Some (doc ps)) deeper h =
      let left : Tree = doc (pairs_of (emptied (t ∷ ss) (entries ps))) in
      let same : set_at (t ∷ ss) w (emptied (t ∷ ss) (entries ps)) ≡ set_at (t ∷ ss) w (entries ps) = deeper (entries ps) h in
      ap (λ (o : Option Tree). put s (made_docs (set_at (t ∷ ss) w) (option_map_or (λ x. x) o (doc (pairs_of [])))) (put s left d)) (find_put s left d)
      ∙ ap (λ (e : Fields). put s (doc (pairs_of (set_at (t ∷ ss) w e))) (put s left d)) (entries_pairs (emptied (t ∷ ss) (entries ps)))
      ∙ ap (λ (e : Fields). put s (doc (pairs_of e)) (put s left d)) same ∙ put_put s left (doc (pairs_of (set_at (t ∷ ss) w (entries ps)))) d

  set_emptied : (s : List ℕ) (ss : Steps) (d : Fields) → field_plain s ss d ≡ Some v → set_at (s ∷ ss) w (emptied (s ∷ ss) d) ≡ set_at (s ∷ ss) w d
  set_emptied s [] d h = set_last s d (find s d) h
  set_emptied s (t ∷ ss) d h = set_below s t ss d (find s d) (set_emptied t ss) h

  pub set_again : (p : Steps) (d : Fields) → plain p (doc (pairs_of d)) ≡ Some v → set p (Some w) (emptied p d) ≡ set p (Some w) d
  set_again [] d h = refl
  set_again (s ∷ ss) d h = set_emptied s ss d (ap (field_plain s ss) (sym (entries_pairs d)) ∙ h)

unwound_same : (p : Steps) (index : Option Steps) (d e : Fields) (i : ℕ) (ts : Trees) → ((x : Tree) → set p (Some x) e ≡ set p (Some x) d) → unwound p index e i ts ≡ unwound p index d i ts
unwound_same p index d e i no_trees h = refl
unwound_same p index d e i (tree t ts) h =
    ap (λ (f : Fields). with_index index (long (pos i)) f ∷ unwound p index e (suc i) ts) (h t) ∙ ap (λ (fs : List Fields). with_index index (long (pos i)) (set p (Some t) d) ∷ fs) (unwound_same p index d e (suc i) ts h)

pub unwound_emptied : (p : Steps) (index : Option Steps) (d : Fields) (i : ℕ) (ts : Trees) (v : Tree) → plain p (doc (pairs_of d)) ≡ Some v → unwound p index (emptied p d) i ts ≡ unwound p index d i ts
unwound_emptied p index d i ts v h = unwound_same p index d (emptied p d) i ts (λ x. set_again x v p d h)

-- ---- a value that is taken out, changed and put back

with_twice : {A : Type 0} (i : ℕ) (x y : A) (ps : List (List ℕ × A)) → with_value i y (with_value i x ps) ≡ with_value i y ps
with_twice i x y [] = refl
with_twice zero x y (p ∷ ps) = refl
with_twice (suc i) x y (p ∷ ps) = ap (λ l. p ∷ l) (with_twice i x y ps)

pub emptied_there : (s : List ℕ) (ss : Steps) (next : List ℕ) (ps : Fields) (i : ℕ) (n old new : Tree) → 1 ≤ length ss → next ≡ get_or ss 0 next → IsAt s ps i →
    option_map (λ p. p.1) (slice_get ps i) ≡ Some old → new ≡ in_one (emptied (next ∷ rest_of ss)) old → with_value i new (with_value i n ps) ≡ emptied (s ∷ ss) ps
emptied_there s [] next ps i n old new h e at got is = absurd (omega arith)
emptied_there s (x ∷ xs) next ps i n old new h e at got is =
    with_twice i n new ps ∙ sym (at.stays new) ∙ ap (λ (t : Tree). put s t ps) (is ∙ ap (λ (ys : Steps). in_one (emptied ys) old) (cons_rest (x ∷ xs) next h e)) ∙ sym (rw (at.found ∙ got) refl)

pub plain_there : (s : List ℕ) (ss : Steps) (next : List ℕ) (ps : Fields) (i : ℕ) (old : Tree) (v : Option Tree) → 1 ≤ length ss → next ≡ get_or ss 0 next → IsAt s ps i →
    option_map (λ p. p.1) (slice_get ps i) ≡ Some old → v ≡ plain (next ∷ rest_of ss) old → v ≡ field_plain s ss ps
plain_there s [] next ps i old v h e at got is = absurd (omega arith)
plain_there s (x ∷ xs) next ps i old v h e at got is = is ∙ ap (λ (ys : Steps). plain ys old) (cons_rest (x ∷ xs) next h e) ∙ sym (rw (at.found ∙ got) refl)

pub emptied_doc : (s : List ℕ) (ss : Steps) (d : Fields) → doc (pairs_of (emptied (s ∷ ss) d)) ≡ in_one (emptied (s ∷ ss)) (doc (pairs_of d))
emptied_doc s ss d = ap (λ (e : Fields). doc (pairs_of (emptied (s ∷ ss) e))) (sym (entries_pairs d))

pub plain_doc : (s : List ℕ) (ss : Steps) (d : Fields) → field_plain s ss d ≡ plain (s ∷ ss) (doc (pairs_of d))
plain_doc s ss d = ap (field_plain s ss) (sym (entries_pairs d))

-- ---- an array with elements

pub array_some : (ts : List Tree) → (length ts ≡ 0 → ⊥) → Elements ≡ array_stands (trees_of ts)
array_some [] h = absurd (h refl)
array_some (t ∷ ts) h = refl

-- the elements of what stands at the path
pub elements_are : (p : Steps) (index : Option Steps) (stays : Bool) (d : Fields) (ts : List Tree) → stands (plain p (doc (pairs_of d))) ≡ Elements → Some (list (trees_of ts)) ≡ plain p (doc (pairs_of d)) →
    unwound p index (emptied p d) 0 (trees_of ts) ≡ unwind_value p index stays d (plain p (doc (pairs_of d)))
elements_are p index stays d [] h e = absurd (let x : Empty ≡ Elements = ap stands e ∙ h in cc)
elements_are p index stays d (t ∷ ts) h e = unwound_emptied p index d 0 (trees_of (t ∷ ts)) (list (trees_of (t ∷ ts))) (sym e) ∙ ap (unwind_value p index stays d) e

pub taken_is : (o : Option Value) (v : Value) (ts : List Tree) (p : Option Tree) → o ≡ Some v → v ≡ V.List ts → option_map tree_of o ≡ p → Some (list (trees_of ts)) ≡ p
taken_is o v ts p e is h = sym (ap (option_map tree_of) e ∙ ap (λ (w : Value). Some (tree_of w)) is) ∙ h

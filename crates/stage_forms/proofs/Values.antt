-- Paths, fields and numbers of a stage, read and written.
use Rattle.std.proofs.Common.{◌≡◌, ℕ, zero, suc, ◌<◌, Bool, true, false, cond, List, [], ◌∷◌, ◌++◌, length, map, refl, sym, ap, ◌∙◌, arith}
use Rattle.std.specs.Prelude.{Option, Some, None, ◌==◌, not, codes}
use Rattle.std.specs.Str.{bytes_eq}
use Rattle.std.proofs.lemmas.Bool.{eqb-true, false_from_ne_true}
use Rattle.std.proofs.lemmas.Slice.Eq.{bytes_eq-Decides}
use Rattle.bson_value.specs.Pairs.{find}
use Rattle.bson_value.specs.Paths.{Steps}
use Rattle.bson_value.specs.Tree.{text, Tree, leaf, doc, no_pairs, pair, pairs_of}
use Rattle.expr_read.specs.Reading.{only_if, path_in, ◌>>=◌}
use Rattle.expr_read.proofs.PathTexts.{path_is, path_read}
use Rattle.stage_tree.specs.Outcome.{Fields}
use Rattle.stage_parts.specs.Each.{each}
use Rattle.stage_parts.specs.Paths.{behind_sign, path_text, field_path, are_apart}
use Rattle.stage_parts.specs.Values.{as_text}
use Rattle.stage_parts.proofs.Each.{each_found_all, each_only}
use Rattle.stage_parts.proofs.Options.{some_same, bind_some, only_some}
use Rattle.stage_parts.proofs.Trees.{text_is}
use Rattle.stage_forms.specs.Leaves.{Leaves, flat, is_empty, leaf_reading, apart_leaves, leaves_reading, IsLeaf, AreLeaves}
use Rattle.stage_forms.specs.Written.{IsPathValue, IsFieldValue}

pub path_value_found : (t : Tree) (p : Steps) → path_text t ≡ Some p → IsPathValue t p
path_value_found t p e =
    let s = bind_some (as_text t) path_in p e in
    let h = path_is s.0 p s.2 in
    record { words = s.0; form = text_is t s.0 s.1; is_path = h.0; steps = h.1 }

pub path_value_only : (t : Tree) (p : Steps) → IsPathValue t p → path_text t ≡ Some p
path_value_only t p v = rw v.form (path_read v.words p v.is_path v.steps)

behind_found : (t : Tree) (s : List ℕ) (p : Steps) → t ≡ leaf (text s) → behind_sign s ≡ Some p → IsFieldValue t p
behind_found t [] p f e = absurd cc
behind_found t (b ∷ bs) p f e =
    let w = only_some (b == 36) (path_in bs) p e in
    let h = path_is bs p w.1 in
    record { words = bs; form = f ∙ ap (λ c. leaf (text (c ∷ bs))) (eqb-true b 36 w.0); is_path = h.0; steps = h.1 }

pub field_value_found : (t : Tree) (p : Steps) → field_path t ≡ Some p → IsFieldValue t p
field_value_found t p e = let s = bind_some (as_text t) behind_sign p e in behind_found t s.0 p (text_is t s.0 s.1) s.2

pub field_value_only : (t : Tree) (p : Steps) → IsFieldValue t p → field_path t ≡ Some p
field_value_only t p v = rw v.form (path_read v.words p v.is_path v.steps)

not_true : (b : Bool) → not b ≡ true → b ≡ false
not_true true e = absurd cc
not_true false e = refl

leaf_found : (f : List ℕ × Tree) (l : Steps × Tree) → leaf_reading f ≡ Some l → IsLeaf f l
leaf_found f l e =
    let w = only_some (not (is_empty f.1)) (path_in f.0 >>= λ path. Some (path, f.1)) l e in
    let p = bind_some (path_in f.0) (λ path. Some (path, f.1)) l w.1 in
    let h = path_is f.0 p.0 p.1 in
    let same = some_same (p.0, f.1) l p.2 in
    record { is_path = h.0; path = h.1 ∙ ap (λ (x : Steps × Tree). x.0) same; value = ap (λ (x : Steps × Tree). x.1) same; some = not_true (is_empty f.1) w.0 }

leaf_only : (f : List ℕ × Tree) (l : Steps × Tree) → IsLeaf f l → leaf_reading f ≡ Some l
leaf_only f l h = rw (h.some, path_read f.0 l.0 h.is_path h.path) (λ i. Some (l.0, h.value i))

pub leaves_found : (ps : Fields) (ls : Leaves) → leaves_reading ps ≡ Some ls → AreLeaves ps ls
leaves_found ps ls e =
    let p = bind_some (each leaf_reading (flat [] (pairs_of ps))) apart_leaves ls e in
    let w = only_some (are_apart (map (λ l. l.0) p.0)) (Some p.0) ls p.2 in
    let same = some_same p.0 ls w.1 in
    record { each = each_found_all leaf_reading IsLeaf leaf_found (flat [] (pairs_of ps)) ls (p.1 ∙ ap Some same); apart = ap (λ xs. are_apart (map (λ l. l.0) xs)) (sym same) ∙ w.0 }

pub leaves_only : (ps : Fields) (ls : Leaves) → AreLeaves ps ls → leaves_reading ps ≡ Some ls
leaves_only ps ls h = ap (λ (o : Option Leaves). o >>= apart_leaves) (each_only leaf_reading IsLeaf leaf_only [] (flat [] (pairs_of ps)) ls h.each) ∙ rw h.apart refl

-- a document of one field
pub one_field : (k : List ℕ) (ps : Fields) (v : Tree) → (length ps == 1) ≡ true → find k ps ≡ Some v → doc (pairs_of ps) ≡ doc (pair k v no_pairs)
one_field k [] v l e = absurd cc
one_field k (p ∷ []) v l e = the_only (bytes_eq p.0 k) refl e
  where
    the_only : (b : Bool) → bytes_eq p.0 k ≡ b → cond b (Some p.1) None ≡ Some v → doc (pair p.0 p.1 no_pairs) ≡ doc (pair k v no_pairs)
    the_only true d h = let n : p.0 ≡ k = (bytes_eq-Decides p.0 k).0 d in let x : p.1 ≡ v = some_same p.1 v h in λ i. doc (pair (n i) (x i) no_pairs)
    the_only false d h = absurd cc
one_field k (p ∷ q ∷ ps) v l e = absurd (let f : ⊥ = omega (arith, eqb-true (length (p ∷ q ∷ ps)) 1 l) in f)

pub some_more : (n : ℕ) → not (n == 0) ≡ true → 0 < n
some_more zero e = absurd cc
some_more (suc n) e = omega arith

pub not_none : (n : ℕ) → 0 < n → not (n == 0) ≡ true
not_none n h = ap not (false_from_ne_true (n == 0) (λ e. (let f : ⊥ = omega (arith, h, eqb-true n 0 e) in f)))

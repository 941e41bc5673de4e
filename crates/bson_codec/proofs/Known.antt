-- The names of the pairs that were read so far, of which the later are in a search tree.
use Rattle.std.proofs.Common.{◌≡◌, ℕ, zero, suc, ◌<◌, ◌≤◌, Bool, true, false, cond, List, [], ◌∷◌, ◌++◌, length, take, drop, refl, sym, ap, ◌∙◌, arith, length-append, length-drop}
use Rattle.std.specs.Prelude.{Option, Some, None, is_some, ◌||◌, slice_get}
use Rattle.std.specs.Option.{option_map}
use Rattle.std.specs.Ordering.{nat_cmp}
use Rattle.std.specs.Cmp.Lexicographic.{slice_cmp}
use Rattle.std.specs.Str.{bytes_eq}
use Rattle.std.specs.BTreeMap.{BTreeMap, UpdatesBy, get_by}
use Rattle.std.proofs.lemmas.List.{take-append-drop, drop-append-le, nil_from_length}
use Rattle.std.proofs.lemmas.Slice.Eq.{bytes_eq-Decides}
use Rattle.std.proofs.lemmas.Map.Text.{btree_map_updates_str}
use denote.Ref.{Bor}
use Rattle.bson_value.specs.Tree.{Tree}
use Rattle.bson_value.specs.Pairs.{find}
use Rattle.bson_codec.specs.Seen.{HasLater}

or_cond : (b : Bool) (t : Tree) (o : Option Tree) (c : Bool) → is_some (cond b (Some t) o) || c ≡ cond b true (is_some o || c)
or_cond true t o c = refl
or_cond false t o c = refl

some_cond : (b : Bool) (t : Tree) (o : Option Tree) → is_some (cond b (Some t) o) ≡ cond b true (is_some o)
some_cond true t o = refl
some_cond false t o = refl

pub found_parts : (n : List ℕ) (xs ys : List (List ℕ × Tree)) → is_some (find n (xs ++ ys)) ≡ is_some (find n xs) || is_some (find n ys)
found_parts n [] ys = refl
found_parts n (x ∷ xs) ys =
    some_cond (bytes_eq x.0 n) x.1 (find n (xs ++ ys)) ∙ ap (cond (bytes_eq x.0 n) true) (found_parts n xs ys) ∙ sym (or_cond (bytes_eq x.0 n) x.1 (find n xs) (is_some (find n ys)))

pub found_either : (k : ℕ) (n : List ℕ) (ps : List (List ℕ × Tree)) → is_some (find n (take k ps)) || is_some (find n (drop k ps)) ≡ is_some (find n ps)
found_either k n ps = sym (found_parts n (take k ps) (drop k ps)) ∙ ap (λ (l : List (List ℕ × Tree)). is_some (find n l)) (take-append-drop k ps)

some_update : {X : Type 0} (b : Bool) (x : X) (o : Option X) → is_some (cond b (Some x) o) ≡ cond b true (is_some o)
some_update true x o = refl
some_update false x o = refl

or_last : (b c : Bool) (t : Tree) → cond b true c ≡ c || is_some (cond b (Some t) None)
or_last true true t = refl
or_last true false t = refl
or_last false true t = refl
or_last false false t = refl

eq_flip : (n k : List ℕ) → bytes_eq n k ≡ bytes_eq k n
eq_flip n k =
    elim (bytes_eq n k) as (λ b. bytes_eq n k ≡ b → b ≡ bytes_eq k n) [
      | true ↦ λ e. sym ((bytes_eq-Decides k n).1 (sym ((bytes_eq-Decides n k).0 e)))
      | false ↦ λ e. elim (bytes_eq k n) as (λ c. bytes_eq k n ≡ c → false ≡ c) [
        | true ↦ λ h. sym e ∙ (bytes_eq-Decides n k).1 (sym ((bytes_eq-Decides k n).0 h))
        | false ↦ λ h. refl
      ] refl
    ] refl

-- a name more, behind the first few
pub later_more : {X : Type 0} (x : X) (n : List ℕ) (t : Tree) (ps : List (List ℕ × Tree)) (m m' : BTreeMap (Bor (List ℕ)) X) → 16 ≤ length ps → HasLater m ps
    → UpdatesBy (λ x y. slice_cmp nat_cmp x.now y.now) (λ k. slice_cmp nat_cmp n k.now) m m' (Some x) → HasLater m' (ps ++ (n, t) ∷ [])
later_more x n t ps m m' le h u = record {
  names = λ q.
      ap is_some (btree_map_updates_str n m m' (Some x) u q)
      ∙ some_update (bytes_eq n q) x (get_by (λ k. slice_cmp nat_cmp q k.now) m)
      ∙ ap (cond (bytes_eq n q) true) (h.names q)
      ∙ or_last (bytes_eq n q) (is_some (find q (drop 16 ps))) t
      ∙ sym (found_parts q (drop 16 ps) ((n, t) ∷ []))
      ∙ ap (λ (l : List (List ℕ × Tree)). is_some (find q l)) (sym (drop-append-le 16 ps ((n, t) ∷ []) le));
}

-- a name more among the first few
pub later_same : {X : Type 0} (n : List ℕ) (t : Tree) (ps : List (List ℕ × Tree)) (m : BTreeMap (Bor (List ℕ)) X) → length ps < 16 → HasLater m ps → HasLater m (ps ++ (n, t) ∷ [])
later_same n t ps m lt h =
    let a : drop 16 ps ≡ [] = nil_from_length (drop 16 ps) (omega (arith, length-drop 16 ps)) in
    let b : drop 16 (ps ++ (n, t) ∷ []) ≡ [] = nil_from_length (drop 16 (ps ++ (n, t) ∷ [])) (omega (arith, length-drop 16 (ps ++ (n, t) ∷ []), length-append ps ((n, t) ∷ []))) in
    record { names = λ q. h.names q ∙ ap (λ (l : List (List ℕ × Tree)). is_some (find q l)) (a ∙ sym b) }

-- ---- one after the other

either : (b : Bool) → cond b true true ≡ true
either true = refl
either false = refl

or_none : (b c d : Bool) → cond b true c ≡ false → (c ≡ false → d ≡ false) → cond b true d ≡ false
or_none true c d h f = absurd cc
or_none false c d h f = f h

pub none_more : (n k : List ℕ) (ps : List (List ℕ × Tree)) (i : ℕ) → option_map (λ p. p.0) (slice_get ps i) ≡ Some k → bytes_eq k n ≡ false → is_some (find n (take i ps)) ≡ false → is_some (find n (take (suc i) ps)) ≡ false
none_more n k [] i e differs h = absurd cc
none_more n k (p ∷ ps) zero e differs h = let s : p.0 ≡ k = cc in rw (s, differs) refl
none_more n k (p ∷ ps) (suc i) e differs h =
    some_cond (bytes_eq p.0 n) p.1 (find n (take (suc i) ps)) ∙ or_none (bytes_eq p.0 n) (is_some (find n (take i ps))) (is_some (find n (take (suc i) ps)))
    (sym (some_cond (bytes_eq p.0 n) p.1 (find n (take i ps))) ∙ h) (λ z. none_more n k ps i e differs z)

pub found_at : (n k : List ℕ) (ps : List (List ℕ × Tree)) (i limit : ℕ) → option_map (λ p. p.0) (slice_get ps i) ≡ Some k → bytes_eq k n ≡ true → i < limit → is_some (find n (take limit ps)) ≡ true
found_at n k [] i limit e same lt = absurd cc
found_at n k (p ∷ ps) i zero e same lt = absurd (omega arith)
found_at n k (p ∷ ps) zero (suc limit) e same lt = let s : p.0 ≡ k = cc in rw (s, same) refl
found_at n k (p ∷ ps) (suc i) (suc limit) e same lt =
    some_cond (bytes_eq p.0 n) p.1 (find n (take limit ps)) ∙ ap (cond (bytes_eq p.0 n) true) (found_at n k ps i limit e same (omega arith)) ∙ either (bytes_eq p.0 n)

-- Laws of paths.
use Rattle.std.proofs.Common.{◌≡◌, ℕ, Bool, true, false, cond, List, [], ◌∷◌, refl, sym, ap, ◌∙◌}
use Rattle.std.specs.Prelude.{Option, Some, None}
use Rattle.std.specs.Option.{option_map_or, option_and_then}
use Rattle.std.specs.Str.{bytes_eq}
use Rattle.std.proofs.lemmas.Slice.Eq.{bytes_eq-Decides}
use Rattle.bson_value.specs.Tree.{Tree, leaf, doc, list, pairs_of, entries}
use Rattle.bson_value.specs.Pairs.{find, put, without}
use Rattle.bson_value.specs.Paths.{reach, plain, set_at, made_docs, unset}
use Rattle.doc_path.specs.Ways.{is_free, IsNew}
use Rattle.doc_path.proofs.Steps.{entries_pairs}

through : (f g : Tree → Option Tree) (free : Tree → Bool) (o : Option Tree) → ((t : Tree) → free t ≡ true → f t ≡ g t) → option_map_or free o true ≡ true → option_and_then f o ≡ option_and_then g o
through f g free None same h = refl
through f g free (Some t) same h = same t h

pub plain_is_reach : (ss : List (List ℕ)) (t : Tree) → is_free ss t ≡ true → reach ss t ≡ plain ss t
plain_is_reach [] t h = refl
plain_is_reach (s ∷ ss) (leaf l) h = refl
plain_is_reach (s ∷ ss) (doc ps) h = through (reach ss) (plain ss) (is_free ss) (find s (entries ps)) (plain_is_reach ss) h
plain_is_reach (s ∷ ss) (list ts) h = cc

same_name : (k : List ℕ) → bytes_eq k k ≡ true
same_name k = (bytes_eq-Decides k k).1 refl

module _ (k : List ℕ) where
  pub find-put : (x : Tree) (ps : List (List ℕ × Tree)) → find k (put k x ps) ≡ Some x
  find-put x [] = rw (same_name k) refl
  find-put x (p ∷ ps) =
      elim (bytes_eq p.0 k) as (λ b. bytes_eq p.0 k ≡ b → find k (cond b ((k, x) ∷ ps) (p ∷ put k x ps)) ≡ Some x) [
        | true ↦ λ e. rw (same_name k) refl
        | false ↦ λ e. rw e (find-put x ps)
      ] refl

  put-put : (x y : Tree) (ps : List (List ℕ × Tree)) → put k y (put k x ps) ≡ put k y ps
  put-put x y [] = rw (same_name k) refl
  put-put x y (p ∷ ps) =
      elim (bytes_eq p.0 k) as (λ b. bytes_eq p.0 k ≡ b → put k y (cond b ((k, x) ∷ ps) (p ∷ put k x ps)) ≡ cond b ((k, y) ∷ ps) (p ∷ put k y ps)) [
        | true ↦ λ e. rw (same_name k) refl
        | false ↦ λ e. rw e (ap (λ l. p ∷ l) (put-put x y ps))
      ] refl

  put-same : (x : Tree) (ps : List (List ℕ × Tree)) → find k ps ≡ Some x → put k x ps ≡ ps
  put-same x [] h = cc
  put-same x (p ∷ ps) h0 =
      elim (bytes_eq p.0 k) as (λ b. bytes_eq p.0 k ≡ b → cond b (Some p.1) (find k ps) ≡ Some x → cond b ((k, x) ∷ ps) (p ∷ put k x ps) ≡ p ∷ ps) [
        | true ↦ λ e h.
            let n : k ≡ p.0 = sym ((bytes_eq-Decides p.0 k).0 e) in
            let v : x ≡ p.1 = cc in
            ap (λ (q : List ℕ). (q, x) ∷ ps) n ∙ ap (λ (t : Tree). (p.0, t) ∷ ps) v
        | false ↦ λ e h. ap (λ l. p ∷ l) (put-same x ps h)
      ] refl h0

  without-put : (x : Tree) (ps : List (List ℕ × Tree)) → find k ps ≡ None → without k (put k x ps) ≡ ps
  without-put x [] h = rw (same_name k) refl
  without-put x (p ∷ ps) h0 =
      elim (bytes_eq p.0 k) as (λ b. bytes_eq p.0 k ≡ b → cond b (Some p.1) (find k ps) ≡ None → without k (cond b ((k, x) ∷ ps) (p ∷ put k x ps)) ≡ p ∷ ps) [
        | true ↦ λ e h. cc
        | false ↦ λ e h. rw e (ap (λ l. p ∷ l) (without-put x ps h))
      ] refl h0

made_reached : (ss : List (List ℕ)) (s : List ℕ) (v : Tree) (o : Option Tree) →
    ((ps : List (List ℕ × Tree)) → option_map_or (is_free ss) (find s ps) true ≡ true → reach (s ∷ ss) (doc (pairs_of (set_at (s ∷ ss) v ps))) ≡ Some v) →
    option_map_or (is_free (s ∷ ss)) o true ≡ true → reach (s ∷ ss) (made_docs (set_at (s ∷ ss) v) (option_map_or (λ x. x) o (doc (pairs_of [])))) ≡ Some v
made_reached ss s v None deeper h = deeper [] refl
made_reached ss s v (Some (leaf l)) deeper h = deeper [] refl
made_reached ss s v (Some (doc ps)) deeper h = deeper (entries ps) h
made_reached ss s v (Some (list ts)) deeper h = cc

reached_below : (ss : List (List ℕ)) (s : List ℕ) (v : Tree) (ps : List (List ℕ × Tree)) → option_map_or (is_free ss) (find s ps) true ≡ true → reach (s ∷ ss) (doc (pairs_of (set_at (s ∷ ss) v ps))) ≡ Some v
reached_below [] s v ps h = rw (entries_pairs (put s v ps), find-put s v ps) refl
reached_below (t ∷ ss) s v ps h =
    let made : Tree = made_docs (set_at (t ∷ ss) v) (option_map_or (λ x. x) (find s ps) (doc (pairs_of []))) in
    rw (entries_pairs (put s made ps), find-put s made ps) (made_reached ss t v (find s ps) (reached_below ss t v) h)

pub set_is_reached : (s : List ℕ) (ss : List (List ℕ)) (v : Tree) (ps : List (List ℕ × Tree)) → is_free (s ∷ ss) (doc (pairs_of ps)) ≡ true → reach (s ∷ ss) (doc (pairs_of (set_at (s ∷ ss) v ps))) ≡ Some v
set_is_reached s ss v ps h = reached_below ss s v ps (rw (entries_pairs ps) at h)

pub unset_is_back : (ss : List (List ℕ)) (v : Tree) (ps : List (List ℕ × Tree)) → IsNew ss ps → unset ss (set_at ss v ps) ≡ ps
unset_is_back [] v ps h = absurd h
unset_is_back (s ∷ []) v ps h = without-put s v ps h
unset_is_back (s ∷ t ∷ ss) v ps h =
    let set_below : List (List ℕ × Tree) = set_at (t ∷ ss) v h.0 in
    let back : unset (t ∷ ss) set_below ≡ h.0 = unset_is_back (t ∷ ss) v h.0 h.2 in
    rw (h.1, entries_pairs h.0, find-put s (doc (pairs_of set_below)) ps, entries_pairs set_below, back, put-put s (doc (pairs_of set_below)) (doc (pairs_of h.0)) ps)
    (put-same s (doc (pairs_of h.0)) ps h.1)

-- Where paths end, element by element.
use Rattle.std.proofs.Common.{◌≡◌, ℕ, suc, ◌+◌, ◌<◌, ◌≤◌, List, [], ◌∷◌, ◌++◌, length, take, map, refl, sym, ap, ◌∙◌, arith, add-zero, add-one, get_or}
use Rattle.std.proofs.Math.Nat.{zero-add}
use Rattle.std.specs.Prelude.{Option, Some, slice_get, Result, Ok, Err, OnOk}
use Rattle.std.specs.List.{flat_map}
use Rattle.std.proofs.Math.Seq.{take-suc}
use Rattle.std.proofs.lemmas.List.{append_assoc, append-nil, length-take-le, map-append}
use Rattle.std.proofs.lemmas.Grind.{flat_map-append}
use Rattle.std.proofs.lemmas.Option.{get_or_from_slice_get}
use Rattle.bson_value.specs.Tree.{Tree, doc, list, pairs_of, trees_of}
use Rattle.bson_value.specs.Paths.{ends, field_ends, named_ends, placed_ends, element_ends, step_ends, opened}
use Rattle.doc_path.proofs.Steps.{rest_of, rest_is, members_trees, entries_pairs}

in_steps : (ss : List (List ℕ)) (s : List ℕ) (t : Tree) → 1 ≤ length ss → s ≡ get_or ss 0 s → step_ends (ends (rest_of ss)) s t ≡ ends ss t
in_steps [] s t h e = absurd (omega arith)
in_steps (x ∷ xs) s t h e = ap (λ (y : List ℕ). step_ends (ends (rest_of (x ∷ xs))) y t) e ∙ ap (λ (ys : List (List ℕ)). step_ends (ends ys) x t) (rest_is x xs)

pub in_document : (ss : List (List ℕ)) (s : List ℕ) (ps : List (List ℕ × Tree)) → 1 ≤ length ss → s ≡ get_or ss 0 s → field_ends (ends (rest_of ss)) s ps ≡ ends ss (doc (pairs_of ps))
in_document ss s ps h e = ap (field_ends (ends (rest_of ss)) s) (sym (entries_pairs ps)) ∙ in_steps ss s (doc (pairs_of ps)) h e

pub in_list : (ss : List (List ℕ)) (s : List ℕ) (ts : List Tree) → 1 ≤ length ss → s ≡ get_or ss 0 s → element_ends (ends (rest_of ss)) s 0 ts ≡ ends ss (list (trees_of ts))
in_list ss s ts h e = ap (element_ends (ends (rest_of ss)) s 0) (sym (members_trees ts)) ∙ in_steps ss s (list (trees_of ts)) h e

pub in_named : (go : Tree → List (Option Tree)) (s : List ℕ) (ps : List (List ℕ × Tree)) → field_ends go s ps ≡ named_ends go s (doc (pairs_of ps))
in_named go s ps = ap (field_ends go s) (sym (entries_pairs ps))

module _ (go : Tree → List (Option Tree)) (s : List ℕ) where
  ends-append : (ts us : List Tree) (i : ℕ) → element_ends go s i (ts ++ us) ≡ element_ends go s i ts ++ element_ends go s (i + length ts) us
  ends-append [] us i = rw add-zero refl
  ends-append (t ∷ ts) us i =
      let e : suc i + length ts ≡ i + length (t ∷ ts) = omega arith in
      let here : List (Option Tree) = named_ends go s t ++ placed_ends go s i t in
      ap (λ l. here ++ l) (ends-append ts us (suc i) ∙ ap (λ (k : ℕ). element_ends go s (suc i) ts ++ element_ends go s k us) e)
      ∙ sym (append_assoc here (element_ends go s (suc i) ts) (element_ends go s (i + length (t ∷ ts)) us))

  pub ends-take : (ts : List Tree) (i : ℕ) (t : Tree) → i < length ts → slice_get ts i ≡ Some t →
      element_ends go s 0 (take i ts) ++ (named_ends go s t ++ placed_ends go s i t) ≡ element_ends go s 0 (take (i + 1) ts)
  ends-take ts i t lt e =
      let le : i ≤ length ts = omega (arith, lt) in
      let k : 0 + length (take i ts) ≡ i = zero-add (length (take i ts)) ∙ length-take-le i ts le in
      rw (add-one, take-suc ts i t lt, get_or_from_slice_get ts i t t e)
      (sym (ends-append (take i ts) (t ∷ []) 0
      ∙ ap (λ l. element_ends go s 0 (take i ts) ++ l) (ap (λ (j : ℕ). element_ends go s j (t ∷ [])) k ∙ append-nil (named_ends go s t ++ placed_ends go s i t))))

-- one more of the values that a query looks at
pub opened-take : (os : List (Option Tree)) (i : ℕ) (o : Option Tree) → i < length os → slice_get os i ≡ Some o → flat_map opened (take i os) ++ opened o ≡ flat_map opened (take (i + 1) os)
opened-take os i o lt e =
    rw (add-one, take-suc os i o lt, get_or_from_slice_get os i o o e)
    (sym (flat_map-append opened (take i os) (o ∷ []) ∙ ap (λ l. flat_map opened (take i os) ++ l) (append-nil (opened o))))

pub members-take : (fs : List (Option Tree)) (ts : List Tree) (i : ℕ) (t : Tree) → i < length ts → slice_get ts i ≡ Some t → (fs ++ map Some (take i ts)) ++ Some t ∷ [] ≡ fs ++ map Some (take (i + 1) ts)
members-take fs ts i t lt e =
    rw (add-one, take-suc ts i t lt, get_or_from_slice_get ts i t t e)
    (append_assoc fs (map Some (take i ts)) (Some t ∷ []) ∙ ap (λ l. fs ++ l) (sym (map-append Some (take i ts) (t ∷ []))))

pub open_list : {T E : Type 0} (r : Result T E) (fs gs hs : List (Option Tree)) (o : Option Tree) (ts : List Tree) → o ≡ Some (list (trees_of ts)) → gs ≡ fs ++ o ∷ [] → OnOk r (hs ≡ gs ++ map Some ts) → OnOk r (hs ≡ fs ++ opened o)
open_list (Err x) fs gs hs o ts is g h = tt
open_list (Ok x) fs gs hs o ts is g h =
    h ∙ ap (λ l. l ++ map Some ts) (g ∙ ap (λ (p : Option Tree). fs ++ p ∷ []) is) ∙ append_assoc fs (Some (list (trees_of ts)) ∷ []) (map Some ts)
    ∙ ap (λ (us : List Tree). fs ++ Some (list (trees_of ts)) ∷ map Some us) (sym (members_trees ts)) ∙ ap (λ (p : Option Tree). fs ++ opened p) (sym is)

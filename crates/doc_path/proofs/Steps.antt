-- Paths, step by step.
use Rattle.std.proofs.Common.{◌≡◌, ℕ, suc, ◌+◌, ◌-◌, ◌<◌, ◌≤◌, List, [], ◌∷◌, ◌++◌, length, take, drop, get_or, refl, sym, ap, ◌∙◌, arith, add-one}
use Rattle.std.specs.Prelude.{Option, Some, None, slice_get}
use Rattle.std.proofs.Math.Seq.{take-suc}
use Rattle.std.proofs.Math.Seq.{take-length}
use Rattle.std.proofs.lemmas.Option.{get_or_from_slice_get}
use Rattle.bson_value.specs.Tree.{Tree, doc, list, pairs_of, trees_of, entries, members}
use Rattle.bson_value.specs.Paths.{reach, field_reach, plain, field_plain, in_value, in_doc, kept, gather}

pub members_trees : (ts : List Tree) → members (trees_of ts) ≡ ts
members_trees [] = refl
members_trees (t ∷ ts) = ap (λ l. t ∷ l) (members_trees ts)

pub entries_pairs : (ps : List (List ℕ × Tree)) → entries (pairs_of ps) ≡ ps
entries_pairs [] = refl
entries_pairs (p ∷ ps) = ap (λ l. p ∷ l) (entries_pairs ps)

abbrev pub rest_of : List (List ℕ) → List (List ℕ)
rest_of ss = take (length ss - 1) (drop 1 ss)

pub rest_is : (x : List ℕ) (xs : List (List ℕ)) → rest_of (x ∷ xs) ≡ xs
rest_is x xs = let e : suc (length xs) - 1 ≡ length xs = omega arith in ap (λ (n : ℕ). take n xs) e ∙ take-length xs

in_steps : (ss : List (List ℕ)) (s : List ℕ) (t : Tree) → 1 ≤ length ss → s ≡ get_or ss 0 s → in_value (field_reach s (rest_of ss)) t ≡ reach ss t
in_steps [] s t h e = absurd (omega arith)
in_steps (x ∷ xs) s t h e = ap (λ (y : List ℕ). in_value (field_reach y (rest_of (x ∷ xs))) t) e ∙ ap (λ (ys : List (List ℕ)). in_value (field_reach x ys) t) (rest_is x xs)

pub in_document : (ss : List (List ℕ)) (s : List ℕ) (ps : List (List ℕ × Tree)) → 1 ≤ length ss → s ≡ get_or ss 0 s → field_reach s (rest_of ss) ps ≡ reach ss (doc (pairs_of ps))
in_document ss s ps h e = ap (field_reach s (rest_of ss)) (sym (entries_pairs ps)) ∙ in_steps ss s (doc (pairs_of ps)) h e

in_plain_steps : (ss : List (List ℕ)) (s : List ℕ) (t : Tree) → 1 ≤ length ss → s ≡ get_or ss 0 s → in_doc (field_plain s (rest_of ss)) t ≡ plain ss t
in_plain_steps [] s t h e = absurd (omega arith)
in_plain_steps (x ∷ xs) s t h e = ap (λ (y : List ℕ). in_doc (field_plain y (rest_of (x ∷ xs))) t) e ∙ ap (λ (ys : List (List ℕ)). in_doc (field_plain x ys) t) (rest_is x xs)

pub plain_in_document : (ss : List (List ℕ)) (s : List ℕ) (ps : List (List ℕ × Tree)) → 1 ≤ length ss → s ≡ get_or ss 0 s → field_plain s (rest_of ss) ps ≡ plain ss (doc (pairs_of ps))
plain_in_document ss s ps h e = ap (field_plain s (rest_of ss)) (sym (entries_pairs ps)) ∙ in_plain_steps ss s (doc (pairs_of ps)) h e

pub in_member : (go : List (List ℕ × Tree) → Option Tree) (ps : List (List ℕ × Tree)) → go ps ≡ in_doc go (doc (pairs_of ps))
in_member go ps = ap go (sym (entries_pairs ps))

pub in_list : (ss : List (List ℕ)) (s : List ℕ) (us ts : List Tree) → 1 ≤ length ss → s ≡ get_or ss 0 s → us ≡ gather (field_reach s (rest_of ss)) ts → Some (list (trees_of us)) ≡ reach ss (list (trees_of ts))
in_list ss s us ts h e p = ap (λ (l : List Tree). Some (list (trees_of l))) (p ∙ ap (gather (field_reach s (rest_of ss))) (sym (members_trees ts))) ∙ in_steps ss s (list (trees_of ts)) h e

module _ (go : List (List ℕ × Tree) → Option Tree) where
  kept-append : (o : Option Tree) (ts us : List Tree) → kept o (ts ++ us) ≡ kept o ts ++ us
  kept-append None ts us = refl
  kept-append (Some t) ts us = refl

  gather-append : (ts us : List Tree) → gather go (ts ++ us) ≡ gather go ts ++ gather go us
  gather-append [] us = refl
  gather-append (t ∷ ts) us = ap (kept (in_doc go t)) (gather-append ts us) ∙ kept-append (in_doc go t) (gather go ts) (gather go us)

  pub gather-take : (ts : List Tree) (i : ℕ) (t : Tree) (o : Option Tree) → i < length ts → slice_get ts i ≡ Some t → o ≡ in_doc go t → gather go (take i ts) ++ kept o [] ≡ gather go (take (i + 1) ts)
  gather-take ts i t o lt e p = rw (p, add-one, take-suc ts i t lt, get_or_from_slice_get ts i t t e) (sym (gather-append (take i ts) (t ∷ [])))

-- Fields and elements that are changed in their place.
use Rattle.std.proofs.Common.{◌≡◌, ℕ, zero, suc, ◌+◌, ◌<◌, ◌≤◌, List, [], ◌∷◌, ◌++◌, length, take, drop, map, get_or, set, refl, sym, ap, ◌∙◌, arith}
use Rattle.std.specs.Prelude.{Some, slice_get}
use Rattle.std.specs.Option.{option_map}
use Rattle.std.proofs.lemmas.List.{set-set}
use Rattle.std.proofs.lemmas.List.Edits.{map_over_more}
use Rattle.std.proofs.lemmas.Option.{get_or_from_slice_get}
use Rattle.bson_value.specs.Tree.{Tree, doc, list, pairs_of, trees_of}
use Rattle.bson_value.specs.Pairs.{put, with_value, IsAt, IsMissing}
use Rattle.bson_value.specs.Paths.{unset, in_own, in_each, set_at, made_doc, made_docs}
use Rattle.doc_path.proofs.Steps.{rest_of, rest_is, members_trees, entries_pairs}

-- a path of a first step and the rest
pub cons_rest : (ss : List (List ℕ)) (s : List ℕ) → 1 ≤ length ss → s ≡ get_or ss 0 s → s ∷ rest_of ss ≡ ss
cons_rest [] s h e = absurd (omega arith)
cons_rest (x ∷ xs) s h e = ap (λ (y : List ℕ). y ∷ rest_of (x ∷ xs)) e ∙ ap (λ (ys : List (List ℕ)). x ∷ ys) (rest_is x xs)

-- a value that is taken out and put back changed
with_twice : {A : Type 0} (i : ℕ) (x y : A) (ps : List (List ℕ × A)) → with_value i y (with_value i x ps) ≡ with_value i y ps
with_twice i x y [] = refl
with_twice zero x y (p ∷ ps) = refl
with_twice (suc i) x y (p ∷ ps) = ap (λ l. p ∷ l) (with_twice i x y ps)

put_back : (s : List ℕ) (ps : List (List ℕ × Tree)) (i : ℕ) (n new : Tree) → IsAt s ps i → with_value i new (with_value i n ps) ≡ put s new ps
put_back s ps i n new at = with_twice i n new ps ∙ sym (at.stays new)

pub each_more : (f : Tree → Tree) (old cur : List Tree) (i : ℕ) (n x y : Tree) → i < length old → cur ≡ map f (take i old) ++ drop i old → slice_get cur i ≡ Some x → y ≡ f x →
    set (set cur i n) i y ≡ map f (take (i + 1) old) ++ drop (i + 1) old
each_more f old cur i n x y lt inv got e = set-set cur i n y ∙ ap (set cur i) e ∙ map_over_more f old cur i x lt inv (sym (get_or_from_slice_get cur i x x got))

pub unset_there : (s : List ℕ) (ss : List (List ℕ)) (next : List ℕ) (ps : List (List ℕ × Tree)) (i : ℕ) (n old new : Tree) → 1 ≤ length ss → next ≡ get_or ss 0 next → IsAt s ps i →
    option_map (λ p. p.1) (slice_get ps i) ≡ Some old → new ≡ in_each (unset (next ∷ rest_of ss)) old → with_value i new (with_value i n ps) ≡ unset (s ∷ ss) ps
unset_there s [] next ps i n old new h e at got is = absurd (omega arith)
unset_there s (x ∷ xs) next ps i n old new h e at got is =
    put_back s ps i n new at ∙ ap (λ (t : Tree). put s t ps) (is ∙ ap (λ (ys : List (List ℕ)). in_each (unset ys) old) (cons_rest (x ∷ xs) next h e)) ∙ sym (rw (at.found ∙ got) refl)

pub unset_missing : (s : List ℕ) (ss : List (List ℕ)) (ps : List (List ℕ × Tree)) → IsMissing s ps → ps ≡ unset (s ∷ ss) ps
unset_missing s [] ps h = sym h.drops
unset_missing s (x ∷ xs) ps h = rw h.found refl

pub own_doc : (go : List (List ℕ × Tree) → List (List ℕ × Tree)) (ps : List (List ℕ × Tree)) → doc (pairs_of (go ps)) ≡ in_own go (doc (pairs_of ps))
own_doc go ps = ap (λ (qs : List (List ℕ × Tree)). doc (pairs_of (go qs))) (sym (entries_pairs ps))

pub each_list : (go : List (List ℕ × Tree) → List (List ℕ × Tree)) (ts : List Tree) → list (trees_of (map (in_own go) ts)) ≡ in_each go (list (trees_of ts))
each_list go ts = ap (λ (us : List Tree). list (trees_of (map (in_own go) us))) (sym (members_trees ts))

pub made_list : (go : List (List ℕ × Tree) → List (List ℕ × Tree)) (ts : List Tree) → list (trees_of (map (made_doc go) ts)) ≡ made_docs go (list (trees_of ts))
made_list go ts = ap (λ (us : List Tree). list (trees_of (map (made_doc go) us))) (sym (members_trees ts))

pub set_there : (s : List ℕ) (ss : List (List ℕ)) (next : List ℕ) (v : Tree) (ps : List (List ℕ × Tree)) (i : ℕ) (n old new : Tree) → 1 ≤ length ss → next ≡ get_or ss 0 next → IsAt s ps i →
    option_map (λ p. p.1) (slice_get ps i) ≡ Some old → new ≡ made_docs (set_at (next ∷ rest_of ss) v) old → with_value i new (with_value i n ps) ≡ set_at (s ∷ ss) v ps
set_there s [] next v ps i n old new h e at got is = absurd (omega arith)
set_there s (x ∷ xs) next v ps i n old new h e at got is =
    put_back s ps i n new at ∙ ap (λ (t : Tree). put s t ps) (is ∙ ap (λ (ys : List (List ℕ)). made_docs (set_at ys v) old) (cons_rest (x ∷ xs) next h e)) ∙ sym (rw (at.found ∙ got) refl)

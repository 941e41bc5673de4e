-- What a value is read as, by what it is.
use Rattle.std.proofs.Common.{◌≡◌, ℕ, zero, suc, ◌≤◌, Bool, true, false, cond, List, [], ◌∷◌, drop, length, refl, sym, ap, ◌∙◌, arith}
use Rattle.std.specs.Prelude.{Option, Some, None, codes}
use Rattle.std.specs.Str.{bytes_eq}
use Rattle.bson_value.specs.Pairs.{find}
use Rattle.bson_value.specs.Tree.{Tree, leaf, doc, list, Pairs, no_pairs, pair, pairs_of, Trees, no_trees, trees_of}
use Rattle.expr_tree.specs.Spells.{Fields}
use Rattle.stage_read.specs.declared.place.Place.{Place}
use Rattle.stage_read.specs.Parts.{only_field, doc_of, list_of}
use Rattle.stage_read.specs.Reading.{Placings, Facets, collection_in, with_facets, with_union, full_union, named_reading, stage_reading, facet_reading, facets_from, union_reading, pipeline_at, pipeline_reading, stages_from}
use Rattle.stage_read.specs.Words.{is_pipeline}
use Rattle.stage_read.proofs.Bits.{decided, some_same, no_some}

pub stage_named : (place : Place) (n : ℕ) (t : Tree) (k : List ℕ) (v : Tree) → Some (k, v) ≡ only_field t → stage_reading place n t ≡ named_reading place n k v
unfolding stage_reading
stage_named place n (leaf l) k v e = absurd cc
stage_named place n (list ts) k v e = absurd cc
stage_named place n (doc no_pairs) k v e = absurd cc
stage_named place n (doc (pair j w no_pairs)) k v e = let d = some_same (k, v) (j, w) e in ap (λ (p : List ℕ × Tree). named_reading place n p.0 p.1) (sym d)
stage_named place n (doc (pair j w (pair i u ps))) k v e = absurd cc

pub stage_none : (place : Place) (n : ℕ) (t : Tree) → None ≡ only_field t → stage_reading place n t ≡ None
unfolding stage_reading
stage_none place n (leaf l) e = refl
stage_none place n (list ts) e = refl
stage_none place n (doc no_pairs) e = refl
stage_none place n (doc (pair j w no_pairs)) e = absurd cc
stage_none place n (doc (pair j w (pair i u ps))) e = refl

pub facet_doc : (n : ℕ) (t : Tree) (fs : Pairs) → Some fs ≡ doc_of t → facet_reading n t ≡ with_facets (facets_from n [] fs)
unfolding facet_reading
facet_doc n (leaf l) fs e = absurd cc
facet_doc n (list ts) fs e = absurd cc
facet_doc n (doc gs) fs e = ap (λ hs. with_facets (facets_from n [] hs)) (sym (some_same fs gs e))

pub facet_none : (n : ℕ) (t : Tree) → None ≡ doc_of t → facet_reading n t ≡ None
unfolding facet_reading
facet_none n (leaf l) e = refl
facet_none n (list ts) e = refl
facet_none n (doc gs) e = absurd cc

pub facets_done : (n : ℕ) (front : Facets) (ds : Fields) (i : ℕ) → length ds ≤ i → facets_from n front (pairs_of (drop i ds)) ≡ Some front
unfolding facets_from
facets_done n front [] zero h = refl
facets_done n front [] (suc i) h = refl
facets_done n front (d ∷ ds) zero h = absurd (let f : ⊥ = omega (arith, h) in f)
facets_done n front (d ∷ ds) (suc i) h = facets_done n front ds i (omega (arith, h))

pub union_doc : (place : Place) (n : ℕ) (t : Tree) (fs : Pairs) → Some fs ≡ doc_of t → union_reading place n t ≡ full_union fs (pipeline_at place n fs)
unfolding union_reading
union_doc place n (leaf l) fs e = absurd cc
union_doc place n (list ts) fs e = absurd cc
union_doc place n (doc gs) fs e = ap (λ hs. full_union hs (pipeline_at place n hs)) (sym (some_same fs gs e))

pub union_none : (place : Place) (n : ℕ) (t : Tree) → None ≡ doc_of t → union_reading place n t ≡ with_union (collection_in t) (Some [])
unfolding union_reading
union_none place n (leaf l) e = refl
union_none place n (list ts) e = refl
union_none place n (doc gs) e = absurd cc

pub pipeline_found : (place : Place) (n : ℕ) (ds : Fields) (v : Tree) → Some v ≡ find (codes "pipeline") ds → pipeline_at place n (pairs_of ds) ≡ pipeline_reading place n v
unfolding pipeline_at
pipeline_found place n [] v e = absurd cc
pipeline_found place n (d ∷ ds) v e = elim (bytes_eq d.0 (codes "pipeline")) as (λ b. Some v ≡ cond b (Some d.1) (find (codes "pipeline") ds) → cond b (pipeline_reading place n d.1) (pipeline_at place n (pairs_of ds)) ≡ pipeline_reading place n v) [
  | true ↦ λ h. ap (pipeline_reading place n) (sym (some_same v d.1 h))
  | false ↦ λ h. pipeline_found place n ds v h
] e

pub pipeline_missing : (place : Place) (n : ℕ) (ds : Fields) → None ≡ find (codes "pipeline") ds → pipeline_at place n (pairs_of ds) ≡ None
unfolding pipeline_at
pipeline_missing place n [] e = refl
pipeline_missing place n (d ∷ ds) e = elim (bytes_eq d.0 (codes "pipeline")) as (λ b. None ≡ cond b (Some d.1) (find (codes "pipeline") ds) → cond b (pipeline_reading place n d.1) (pipeline_at place n (pairs_of ds)) ≡ None) [
  | true ↦ λ h. absurd (no_some d.1 h)
  | false ↦ λ h. pipeline_missing place n ds h
] e

pub pipeline_list : (place : Place) (n : ℕ) (t : Tree) (ts : Trees) → Some ts ≡ list_of t → pipeline_reading place n t ≡ stages_from place n [] ts
unfolding pipeline_reading
pipeline_list place n (leaf l) ts e = absurd cc
pipeline_list place n (doc gs) ts e = absurd cc
pipeline_list place n (list us) ts e = ap (stages_from place n []) (sym (some_same ts us e))

pub pipeline_none : (place : Place) (n : ℕ) (t : Tree) → None ≡ list_of t → pipeline_reading place n t ≡ None
unfolding pipeline_reading
pipeline_none place n (leaf l) e = refl
pipeline_none place n (doc gs) e = refl
pipeline_none place n (list us) e = absurd cc

pub stages_done : (place : Place) (n : ℕ) (front : Placings) (ts : List Tree) (i : ℕ) → length ts ≤ i → stages_from place n front (trees_of (drop i ts)) ≡ Some front
unfolding stages_from
stages_done place n front [] zero h = refl
stages_done place n front [] (suc i) h = refl
stages_done place n front (t ∷ ts) zero h = absurd (let f : ⊥ = omega (arith, h) in f)
stages_done place n front (t ∷ ts) (suc i) h = stages_done place n front ts i (omega (arith, h))

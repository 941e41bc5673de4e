-- What is spelled is read so.
use Rattle.std.proofs.Common.{◌≡◌, ℕ, ◌≤◌, Bool, true, false, cond, List, [], ◌∷◌, ◌++◌, length, map, refl, sym, ap, ◌∙◌, arith, inl, inr, subst}
use Rattle.std.specs.Prelude.{Option, Some, None, ◌⊎◌, ◌&&◌, ◌||◌, ◌==◌, not, nat_le, codes}
use Rattle.std.proofs.lemmas.List.{append_assoc, append-nil}
use Rattle.std.proofs.lemmas.Bool.{le-leb}
use Rattle.bson_value.specs.Pairs.{find}
use Rattle.bson_value.specs.Tree.{text, Tree, leaf, doc, list, Pairs, no_pairs, pair, Trees, no_trees, tree, entries}
use Rattle.expr_read.specs.Reading.{only_if, ◌>>=◌}
use Rattle.stage_tree.specs.Stage.{facet, union, StageNode, stage, Stages, no_stages, placed, stages_of, Pipes, no_pipes, pipe, pipes_of}
use Rattle.stage_parts.specs.Names.{is_collection_name, is_field_name}
use Rattle.stage_read.specs.declared.place.Place.{Place}
use Rattle.stage_read.specs.declared.place.Place.TheVariants as P
use Rattle.stage_read.specs.Reading.{Placings, Facets, collection_in, with_facets, with_union, collection_at, stage_reading, facet_reading, facets_from, union_reading, pipeline_at, pipeline_reading, stages_from}
use Rattle.stage_read.specs.Words.{is_pipeline, is_facet, is_union, is_merge, may_merge, may_facet, in_union}
use Rattle.stage_read.specs.Written.{SpellsSimple, IsBare, SpellsStage, IsList, SpellsFacets, SpellsStages}
use Rattle.stage_read.proofs.Bits.{decided, neither, if_allowed}
use Rattle.stage_read.proofs.KindReadings.{kind_read}

simple_read : (place : Place) (n : ℕ) (t : Tree) (s : StageNode) → SpellsSimple place n t s → stage_reading place n t ≡ Some s
unfolding stage_reading facet_reading facets_from union_reading pipeline_at pipeline_reading stages_from
simple_read place n t s x =
    let a = neither (is_facet x.name) (is_union x.name) x.alone in
    rw (x.form, a.0, a.1, if_allowed (is_merge x.name) (may_merge place) x.merges) (kind_read n x.name x.value s x.kind)

-- the pipeline at its name
at_read : (place : Place) (n : ℕ) (fs : Pairs) (v : Tree) → find (codes "pipeline") (entries fs) ≡ Some v → pipeline_at place n fs ≡ pipeline_reading place n v
unfolding stage_reading facet_reading facets_from union_reading pipeline_at pipeline_reading stages_from
at_read place n no_pairs v e = absurd cc
at_read place n (pair k w fs) v e = elim (decided (is_pipeline k)) [
  | inl h ↦ let d : Some w ≡ Some v = rw h at e in let c : w ≡ v = cc in rw (h, c) refl
  | inr h ↦ rw h (at_read place n fs v (rw h at e))
]

bare_read : (place : Place) (n : ℕ) (name : List ℕ) (v : Tree) (ss : Stages) → is_collection_name name ≡ true → IsBare name v ss → union_reading place n v ≡ Some (stage (union name) (pipe ss no_pipes))
unfolding stage_reading facet_reading facets_from union_reading pipeline_at pipeline_reading stages_from
bare_read place n name v ss c h = rw (h.0, h.1, c) refl

coll_read : (fs : Pairs) (name : List ℕ) (v : Tree) → is_collection_name name ≡ true → find (codes "coll") (entries fs) ≡ Some v → v ≡ leaf (text name) → collection_at fs ≡ Some name
coll_read fs name v c f e = rw (f, e, c) refl

pipeline_read : (place : Place) (n : ℕ) (fs : Pairs) (v : Tree) (ts : Trees) (us : Placings) → find (codes "pipeline") (entries fs) ≡ Some v → v ≡ list ts → stages_from place n [] ts ≡ Some us → pipeline_at place n fs ≡ Some us
unfolding stage_reading facet_reading facets_from union_reading pipeline_at pipeline_reading stages_from
pipeline_read place n fs v ts us f e s = at_read place n fs v f ∙ rw e s

full_read : (place : Place) (n : ℕ) (fs : Pairs) (name : List ℕ) (us : Placings) (ss : Stages) → length (entries fs) ≡ 2 → collection_at fs ≡ Some name → pipeline_at place n fs ≡ Some us → stages_of us ≡ ss → union_reading place n (doc fs) ≡ Some (stage (union name) (pipe ss no_pipes))
unfolding stage_reading facet_reading facets_from union_reading pipeline_at pipeline_reading stages_from
full_read place n fs name us ss l c p e = rw (l, c, p, e) refl

facet_read : (n : ℕ) (fs : Pairs) (gs : Facets) → facets_from n [] fs ≡ Some gs → 1 ≤ length gs → facet_reading n (doc fs) ≡ Some (stage (facet (map (λ f. f.0) gs)) (pipes_of gs))
unfolding stage_reading facet_reading facets_from union_reading pipeline_at pipeline_reading stages_from
facet_read n fs gs e l = rw (e, le-leb 1 (length gs) l) refl

facet_step : (n : ℕ) (front : Facets) (k m : List ℕ) (v : Tree) (ts : Trees) (fs : Pairs) (us : Placings) (hs : Facets) → k ≡ m → is_field_name m ≡ true → v ≡ list ts → stages_from P.Facet n [] ts ≡ Some us
    → facets_from n (front ++ (m, us) ∷ []) fs ≡ Some ((front ++ (m, us) ∷ []) ++ hs) → facets_from n front (pair k v fs) ≡ Some (front ++ (m, us) ∷ hs)
unfolding stage_reading facet_reading facets_from union_reading pipeline_at pipeline_reading stages_from
facet_step n front k m v ts fs us hs e f q s r = rw (e, f, q, s) (r ∙ ap Some (append_assoc front ((m, us) ∷ []) hs))

as_many : (gs : Facets) (names : List (List ℕ)) → map (λ (f : List ℕ × Placings). f.0) gs ≡ names → length gs ≡ length names
as_many [] names e = rw (← e) refl
as_many (g ∷ gs) names e = rw (← e) (grind (arith, as_many gs (map (λ f. f.0) gs) refl))

mutual
  unfolding stage_reading facet_reading facets_from union_reading pipeline_at pipeline_reading stages_from

  pub stage_read : (s : StageNode) (place : Place) (n : ℕ) (t : Tree) → SpellsStage place n t s → stage_reading place n t ≡ Some s
  stage_read (stage (facet names) ps) place n t (inl x) = simple_read place n t (stage (facet names) ps) x
  stage_read (stage (facet names) ps) place n t (inr x) =
      let r = facets_read ps names n [] x.2.0 x.2.2 in
      rw (x.2.1, x.0) (facet_read n x.2.0 r.0 r.1 (rw (as_many r.0 names r.2) x.1) ∙ ap Some (λ i. stage (facet (r.2 i)) (r.3 i)))
  stage_read (stage (union name) (pipe ss no_pipes)) place n t (inl x) = simple_read place n t (stage (union name) (pipe ss no_pipes)) x
  stage_read (stage (union name) (pipe ss no_pipes)) place n t (inr x) = rw x.1.1 (elim x.1.2 [
    | inl h ↦ bare_read (in_union place) n name x.1.0 ss x.0 h
    | inr h ↦
        let q = h.4.2 in
        let r = stages_read ss (in_union place) n [] q.0 q.2 in
        rw h.1 (full_read (in_union place) n h.0 name r.0 ss h.2 (coll_read h.0 name h.3.0 x.0 h.3.1 h.3.2) (pipeline_read (in_union place) n h.0 h.4.0 q.0 r.0 h.4.1 q.1 r.1) r.2)
  ])
  stage_read s place n t x = simple_read place n t s x

  facets_read : (ps : Pipes) (names : List (List ℕ)) (n : ℕ) (front : Facets) (fs : Pairs) → SpellsFacets n fs names ps → (hs : Facets) × (facets_from n front fs ≡ Some (front ++ hs)) × (map (λ f. f.0) hs ≡ names) × (pipes_of hs ≡ ps)
  facets_read no_pipes [] n front no_pairs h = ([], ap Some (sym (append-nil front)), refl, refl)
  facets_read (pipe ss ps) (m ∷ ms) n front (pair k v fs) h =
      let q = h.2 in
      let u = stages_read ss P.Facet n [] q.0 q.2 in
      let r = facets_read ps ms n (front ++ (m, u.0) ∷ []) fs h.3 in
      ((m, u.0) ∷ r.0, facet_step n front k m v q.0 fs u.0 r.0 h.0 h.1 q.1 u.1 r.1, (λ i. m ∷ r.2 i), (λ i. pipe (u.2 i) (r.3 i)))
  facets_read no_pipes (m ∷ ms) n front no_pairs h = absurd h
  facets_read (pipe ss ps) [] n front no_pairs h = absurd h
  facets_read (pipe ss ps) (m ∷ ms) n front no_pairs h = absurd h
  facets_read no_pipes [] n front (pair k v fs) h = absurd h
  facets_read no_pipes (m ∷ ms) n front (pair k v fs) h = absurd h
  facets_read (pipe ss ps) [] n front (pair k v fs) h = absurd h

  stages_read : (ss : Stages) (place : Place) (n : ℕ) (front : Placings) (ts : Trees) → SpellsStages place n ts ss → (us : Placings) × (stages_from place n front ts ≡ Some (front ++ us)) × (stages_of us ≡ ss)
  stages_read no_stages place n front no_trees h = ([], ap Some (sym (append-nil front)), refl)
  stages_read (placed s os ss) place n front (tree t ts) h =
      let e = stage_read s place n t h.0 in
      let r = stages_read ss place n (front ++ (s, n ∷ []) ∷ []) ts h.2 in
      ((s, n ∷ []) ∷ r.0, rw e (r.1 ∙ ap Some (append_assoc front ((s, n ∷ []) ∷ []) r.0)), (λ i. placed s (sym h.1 i) (r.2 i)))
  stages_read no_stages place n front (tree t ts) h = absurd h
  stages_read (placed s os ss) place n front no_trees h = absurd h

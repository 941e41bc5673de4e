-- What is read is spelled so.
use Rattle.std.proofs.Common.{◌≡◌, ℕ, ◌≤◌, Bool, true, false, cond, List, [], ◌∷◌, ◌++◌, length, map, refl, sym, ap, ◌∙◌, arith, inl, inr, subst}
use Rattle.std.specs.Prelude.{Option, Some, None, ◌⊎◌, ◌&&◌, ◌||◌, ◌==◌, not, nat_le, codes}
use Rattle.std.proofs.lemmas.List.{append_assoc, append-nil}
use Rattle.std.proofs.lemmas.Bool.{leb-true, eqb-true}
use Rattle.bson_value.specs.Pairs.{find}
use Rattle.bson_value.specs.Tree.{Leaf, least, null, int, long, text, bin, id, flag, date, stamp, greatest, Tree, leaf, doc, list, Pairs, no_pairs, pair, Trees, no_trees, tree, entries}
use Rattle.expr_tree.specs.Spells.{At}
use Rattle.expr_read.specs.Reading.{only_if, ◌>>=◌}
use Rattle.stage_tree.specs.Stage.{facet, union, StageNode, stage, Stages, no_stages, stages_of, no_pipes, pipe, pipes_of}
use Rattle.stage_parts.specs.Names.{is_collection_name, is_field_name}
use Rattle.stage_read.specs.declared.place.Place.{Place}
use Rattle.stage_read.specs.declared.place.Place.TheVariants as P
use Rattle.stage_read.specs.Kinds.{kind_reading}
use Rattle.stage_read.specs.Reading.{Placings, Facets, simple_reading, collection_in, with_facets, with_union, collection_at, stage_reading, facet_reading, facets_from, union_reading, pipeline_at, pipeline_reading, stages_from}
use Rattle.stage_read.specs.Words.{is_pipeline, is_facet, is_union, is_merge, may_merge, may_facet, in_union}
use Rattle.stage_read.specs.Written.{SpellsSimple, SpellsStage, IsList, SpellsFacets, SpellsStages}
use Rattle.stage_read.proofs.Bits.{decided, some_same, no_some, bind_some, only_some, same_bytes, none_of, allowed_if}
use Rattle.stage_read.proofs.KindReadings.{kind_spelled}

simple_is : (place : Place) (n : ℕ) (t : Tree) (s : StageNode) → SpellsSimple place n t s → SpellsStage place n t s
simple_is place n t (stage (facet names) ps) x = inl x
simple_is place n t (stage (union name) (pipe ss no_pipes)) x = inl x
simple_is place n t s x = x

simple_spelled : (place : Place) (n : ℕ) (k : List ℕ) (v : Tree) (s : StageNode) → is_facet k ≡ false → is_union k ≡ false → simple_reading place n k v ≡ Some s → SpellsStage place n (doc (pair k v no_pairs)) s
simple_spelled place n k v s f u e =
    let p = only_some (not (is_merge k) || may_merge place) (kind_reading n k v) s e in
    simple_is place n (doc (pair k v no_pairs)) s (record { name = k; value = v; form = refl; alone = none_of (is_facet k) (is_union k) f u; merges = allowed_if (is_merge k) (may_merge place) p.0; kind = kind_spelled n k v s p.1 })

text_is : (s name : List ℕ) → only_if (is_collection_name s) (Some s) ≡ Some name → (leaf (text s) ≡ leaf (text name)) × (is_collection_name name ≡ true)
text_is s name e =
    let p = only_some (is_collection_name s) (Some s) name e in
    let q = some_same s name p.1 in
    (ap (λ x. leaf (text x)) q, subst (λ x. is_collection_name x ≡ true) q p.0)

pub collection_is : (t : Tree) (name : List ℕ) → collection_in t ≡ Some name → (t ≡ leaf (text name)) × (is_collection_name name ≡ true)
collection_is (leaf (text s)) name e = text_is s name e
collection_is (leaf least) name e = absurd cc
collection_is (leaf null) name e = absurd cc
collection_is (leaf (int i)) name e = absurd cc
collection_is (leaf (long i)) name e = absurd cc
collection_is (leaf (bin k s)) name e = absurd cc
collection_is (leaf (id s)) name e = absurd cc
collection_is (leaf (flag b)) name e = absurd cc
collection_is (leaf (date i)) name e = absurd cc
collection_is (leaf (stamp i)) name e = absurd cc
collection_is (leaf greatest) name e = absurd cc
collection_is (doc ps) name e = absurd cc
collection_is (list ts) name e = absurd cc

-- a union that was read, from what was read of it
union_parts : (name : Option (List ℕ)) (o : Option Placings) (s : StageNode) → with_union name o ≡ Some s → (c : List ℕ) × (ss : Placings) × (name ≡ Some c) × (o ≡ Some ss) × (stage (union c) (pipe (stages_of ss) no_pipes) ≡ s)
union_parts None o s e = absurd cc
union_parts (Some c) None s e = absurd cc
union_parts (Some c) (Some ss) s e = (c, ss, refl, refl, some_same (stage (union c) (pipe (stages_of ss) no_pipes)) s e)

facet_parts : (o : Option Facets) (s : StageNode) → with_facets o ≡ Some s → (gs : Facets) × (o ≡ Some gs) × (1 ≤ length gs) × (stage (facet (map (λ f. f.0) gs)) (pipes_of gs) ≡ s)
facet_parts None s e = absurd cc
facet_parts (Some gs) s e =
    let p = only_some (nat_le 1 (length gs)) (Some (stage (facet (map (λ f. f.0) gs)) (pipes_of gs))) s e in
    (gs, refl, leb-true 1 (length gs) p.0, some_same (stage (facet (map (λ f. f.0) gs)) (pipes_of gs)) s p.1)

as_many : (gs : Facets) → length (map (λ (f : List ℕ × Placings). f.0) gs) ≡ length gs
as_many [] = refl
as_many (g ∷ gs) = grind (arith, as_many gs)

bare_spelled : (place : Place) (n : ℕ) (t : Tree) (s : StageNode) → with_union (collection_in t) (Some []) ≡ Some s → SpellsStage place n (doc (pair (codes "$unionWith") t no_pairs)) s
bare_spelled place n t s e =
    let p = union_parts (collection_in t) (Some []) s e in
    let c = collection_is t p.0 p.2 in
    let q = some_same [] p.1 p.3 in
    subst (SpellsStage place n (doc (pair (codes "$unionWith") t no_pairs))) p.4 (inr (c.1, (t, refl, inl (c.0, ap stages_of (sym q)))))

at_coll : (fs : Pairs) (c : List ℕ) → collection_at fs ≡ Some c → At (codes "coll") (entries fs) (λ t. t ≡ leaf (text c)) × (is_collection_name c ≡ true)
at_coll fs c e =
    let p = bind_some (find (codes "coll") (entries fs)) collection_in c e in
    let q = collection_is p.0 c p.2 in
    ((p.0, p.1, q.0), q.1)

mutual
  unfolding stage_reading facet_reading facets_from union_reading pipeline_at pipeline_reading stages_from

  pub stage_spelled : (place : Place) (n : ℕ) (t : Tree) (s : StageNode) → stage_reading place n t ≡ Some s → SpellsStage place n t s
  stage_spelled place n (leaf l) s e = absurd cc
  stage_spelled place n (list ts) s e = absurd cc
  stage_spelled place n (doc no_pairs) s e = absurd cc
  stage_spelled place n (doc (pair k v no_pairs)) s e = elim (decided (is_facet k)) [
    | inl f ↦
        let p = only_some (may_facet place) (facet_reading n v) s (rw f at e) in
        rw (same_bytes k (codes "$facet") f) (facet_spelled place n v s p.0 p.1)
    | inr f ↦ elim (decided (is_union k)) [
      | inl u ↦ rw (same_bytes k (codes "$unionWith") u) (union_spelled place n v s (rw (f, u) at e))
      | inr u ↦ simple_spelled place n k v s f u (rw (f, u) at e)
    ]
  ]
  stage_spelled place n (doc (pair k v (pair j w ps))) s e = absurd cc

  facet_spelled : (place : Place) (n : ℕ) (v : Tree) (s : StageNode) → may_facet place ≡ true → facet_reading n v ≡ Some s → SpellsStage place n (doc (pair (codes "$facet") v no_pairs)) s
  facet_spelled place n (leaf l) s m e = absurd cc
  facet_spelled place n (list ts) s m e = absurd cc
  facet_spelled place n (doc fs) s m e =
      let p = facet_parts (facets_from n [] fs) s e in
      let q = facets_spelled n [] fs p.0 p.1 in
      let r = subst (λ gs. SpellsFacets n fs (map (λ f. f.0) gs) (pipes_of gs)) q.1 q.2 in
      subst (SpellsStage place n (doc (pair (codes "$facet") (doc fs) no_pairs))) p.3 (inr (m, rw (as_many p.0) p.2, (fs, refl, r)))

  facets_spelled : (n : ℕ) (front : Facets) (fs : Pairs) (gs : Facets) → facets_from n front fs ≡ Some gs → (hs : Facets) × (front ++ hs ≡ gs) × SpellsFacets n fs (map (λ f. f.0) hs) (pipes_of hs)
  facets_spelled n front no_pairs gs e = ([], append-nil front ∙ some_same front gs e, tt)
  facets_spelled n front (pair k v fs) gs e =
      let a = only_some (is_field_name k) (pipeline_reading P.Facet n v >>= λ ss. facets_from n (front ++ (k, ss) ∷ []) fs) gs e in
      let b = bind_some (pipeline_reading P.Facet n v) (λ ss. facets_from n (front ++ (k, ss) ∷ []) fs) gs a.1 in
      let r = facets_spelled n (front ++ (k, b.0) ∷ []) fs gs b.2 in
      ((k, b.0) ∷ r.0, sym (append_assoc front ((k, b.0) ∷ []) r.0) ∙ r.1, (refl, a.0, pipeline_spelled P.Facet n v b.0 b.1, r.2))

  union_spelled : (place : Place) (n : ℕ) (v : Tree) (s : StageNode) → union_reading (in_union place) n v ≡ Some s → SpellsStage place n (doc (pair (codes "$unionWith") v no_pairs)) s
  union_spelled place n (leaf l) s e = bare_spelled place n (leaf l) s e
  union_spelled place n (list ts) s e = bare_spelled place n (list ts) s e
  union_spelled place n (doc fs) s e =
      let a = only_some (length (entries fs) == 2) (with_union (collection_at fs) (pipeline_at (in_union place) n fs)) s e in
      let p = union_parts (collection_at fs) (pipeline_at (in_union place) n fs) s a.1 in
      let c = at_coll fs p.0 p.2 in
      subst (SpellsStage place n (doc (pair (codes "$unionWith") (doc fs) no_pairs))) p.4
      (inr (c.1, (doc fs, refl, inr (fs, refl, eqb-true (length (entries fs)) 2 a.0, c.0, at_spelled (in_union place) n fs p.1 p.3))))

  at_spelled : (place : Place) (n : ℕ) (fs : Pairs) (ss : Placings) → pipeline_at place n fs ≡ Some ss → At (codes "pipeline") (entries fs) (IsList (λ ts. SpellsStages place n ts (stages_of ss)))
  at_spelled place n no_pairs ss e = absurd cc
  at_spelled place n (pair k v fs) ss e = elim (decided (is_pipeline k)) [
    | inl h ↦ (v, rw h refl, pipeline_spelled place n v ss (rw h at e))
    | inr h ↦ let r = at_spelled place n fs ss (rw h at e) in (r.0, rw h r.1, r.2)
  ]

  pipeline_spelled : (place : Place) (n : ℕ) (t : Tree) (ss : Placings) → pipeline_reading place n t ≡ Some ss → IsList (λ ts. SpellsStages place n ts (stages_of ss)) t
  pipeline_spelled place n (leaf l) ss e = absurd cc
  pipeline_spelled place n (doc ps) ss e = absurd cc
  pipeline_spelled place n (list ts) ss e = let r = stages_spelled place n [] ts ss e in (ts, refl, subst (λ us. SpellsStages place n ts (stages_of us)) r.1 r.2)

  stages_spelled : (place : Place) (n : ℕ) (front : Placings) (ts : Trees) (ss : Placings) → stages_from place n front ts ≡ Some ss → (us : Placings) × (front ++ us ≡ ss) × SpellsStages place n ts (stages_of us)
  stages_spelled place n front no_trees ss e = ([], append-nil front ∙ some_same front ss e, tt)
  stages_spelled place n front (tree t ts) ss e =
      let b = bind_some (stage_reading place n t) (λ s. stages_from place n (front ++ (s, n ∷ []) ∷ []) ts) ss e in
      let r = stages_spelled place n (front ++ (b.0, n ∷ []) ∷ []) ts ss b.2 in
      ((b.0, n ∷ []) ∷ r.0, sym (append_assoc front ((b.0, n ∷ []) ∷ []) r.0) ∙ r.1, (stage_spelled place n t b.0 b.1, refl, r.2))

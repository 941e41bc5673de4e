-- Readings of lists, one item after another.
use Rattle.std.proofs.Common.{◌≡◌, ℕ, zero, suc, ◌+◌, Bool, true, false, cond, List, [], ◌∷◌, ◌++◌, drop, refl, sym, ap, ◌∙◌, arith, add-one}
use Rattle.std.specs.Prelude.{Option, Some, None, Result, Ok, Err, slice_get}
use Rattle.std.specs.Option.{option_map}
use Rattle.bson_value.specs.Tree.{Tree, Pairs, pair, pairs_of, Trees, tree, trees_of}
use Rattle.expr_read.specs.declared.errors.FormError.{FormError}
use Rattle.expr_read.specs.declared.errors.FormError.TheVariants.{Form, Memory}
use Rattle.expr_read.specs.Reading.{only_if, ◌>>=◌}
use Rattle.expr_read.specs.Reads.{Refuses}
use Rattle.stage_tree.specs.Stage.{StageNode}
use Rattle.stage_parts.specs.Names.{is_field_name}
use Rattle.stage_read.specs.declared.place.Place.{Place}
use Rattle.stage_read.specs.declared.place.Place.TheVariants as P
use Rattle.stage_read.specs.Reading.{Placings, Facets, stage_reading, stages_from, pipeline_reading, facets_from}

pub items_at : (ts : List Tree) (i : ℕ) (t : Tree) → slice_get ts i ≡ Some t → trees_of (drop i ts) ≡ tree t (trees_of (drop (i + 1) ts))
items_at [] i t p = absurd cc
items_at (x ∷ ts) zero t p = let e : x ≡ t = cc in rw (← e) refl
items_at (x ∷ ts) (suc i) t p = rw add-one (rw add-one at (items_at ts i t p))

pub pairs_at : (ps : List (List ℕ × Tree)) (i : ℕ) (k : List ℕ) (t : Tree) → option_map (λ (p : List ℕ × Tree). p.0) (slice_get ps i) ≡ Some k → option_map (λ (p : List ℕ × Tree). p.1) (slice_get ps i) ≡ Some t → pairs_of (drop i ps) ≡ pair k t (pairs_of (drop (i + 1) ps))
pairs_at [] i k t p q = absurd cc
pairs_at (x ∷ ps) zero k t p q = let d : x.0 ≡ k = cc in let e : x.1 ≡ t = cc in rw (← d, ← e) refl
pairs_at (x ∷ ps) (suc i) k t p q = rw add-one (rw add-one at (pairs_at ps i k t p q))

stays : {A B : Type 0} (e : FormError) (o : Option A) (f : A → Option B) (s : Option B) → (o >>= f) ≡ s → Refuses e o → Refuses e s
stays Memory o f s p h = tt
stays Form o f s p h = sym p ∙ rw h refl

module _ (place : Place) (n : ℕ) (ts : List Tree) (i : ℕ) (t : Tree) (at : slice_get ts i ≡ Some t) (front : Placings) (s : Option Placings) (p : stages_from place n front (trees_of (drop i ts)) ≡ s) where
  stages_at : (stage_reading place n t >>= λ x. stages_from place n (front ++ (x, n ∷ []) ∷ []) (trees_of (drop (i + 1) ts))) ≡ s
  unfolding stages_from
  stages_at = ap (λ us. stages_from place n front us) (sym (items_at ts i t at)) ∙ p

  pub stages_fail : (e : FormError) → Refuses e (stage_reading place n t) → Refuses e s
  stages_fail e h = stays e (stage_reading place n t) (λ x. stages_from place n (front ++ (x, n ∷ []) ∷ []) (trees_of (drop (i + 1) ts))) s stages_at h

  pub stages_go : (x : StageNode) → stage_reading place n t ≡ Some x → stages_from place n (front ++ (x, n ∷ []) ∷ []) (trees_of (drop (i + 1) ts)) ≡ s
  stages_go x h = ap (λ (o : Option StageNode). o >>= λ y. stages_from place n (front ++ (y, n ∷ []) ∷ []) (trees_of (drop (i + 1) ts))) (sym h) ∙ stages_at

module _ (n : ℕ) (ps : List (List ℕ × Tree)) (i : ℕ) (k : List ℕ) (t : Tree) (pk : option_map (λ (p : List ℕ × Tree). p.0) (slice_get ps i) ≡ Some k) (pt : option_map (λ (p : List ℕ × Tree). p.1) (slice_get ps i) ≡ Some t) (front : Facets) (s : Option Facets) (p : facets_from n front (pairs_of (drop i ps)) ≡ s) where
  facets_at : cond (is_field_name k) (pipeline_reading P.Facet n t >>= λ ss. facets_from n (front ++ (k, ss) ∷ []) (pairs_of (drop (i + 1) ps))) None ≡ s
  unfolding facets_from
  facets_at = ap (λ fs. facets_from n front fs) (sym (pairs_at ps i k t pk pt)) ∙ p

  facets_stop : is_field_name k ≡ false → s ≡ None
  facets_stop h = sym facets_at ∙ rw h refl

  refused : (b : Bool) → only_if b (Some k) ≡ None → b ≡ false
  refused true h = absurd cc
  refused false h = refl

  pub facets_bad : (e : FormError) → Refuses e (only_if (is_field_name k) (Some k)) → Refuses e s
  facets_bad Memory h = tt
  facets_bad Form h = facets_stop (refused (is_field_name k) h)

  given : (b : Bool) (x : List ℕ) → only_if b (Some k) ≡ Some x → (b ≡ true) × (k ≡ x)
  given true x h = (refl, cc)
  given false x h = absurd cc

  module _ (x : List ℕ) (h : only_if (is_field_name k) (Some k) ≡ Some x) where
    facets_on : (pipeline_reading P.Facet n t >>= λ ss. facets_from n (front ++ (x, ss) ∷ []) (pairs_of (drop (i + 1) ps))) ≡ s
    facets_on = let g = given (is_field_name k) x h in rw (g.0, g.1) at facets_at

    pub facets_fail : (e : FormError) → Refuses e (pipeline_reading P.Facet n t) → Refuses e s
    facets_fail e r = stays e (pipeline_reading P.Facet n t) (λ ss. facets_from n (front ++ (x, ss) ∷ []) (pairs_of (drop (i + 1) ps))) s facets_on r

    pub facets_go : (ss : Placings) → pipeline_reading P.Facet n t ≡ Some ss → facets_from n (front ++ (x, ss) ∷ []) (pairs_of (drop (i + 1) ps)) ≡ s
    facets_go ss r = ap (λ (o : Option Placings). o >>= λ us. facets_from n (front ++ (x, us) ∷ []) (pairs_of (drop (i + 1) ps))) (sym r) ∙ facets_on

-- Operands that are read one after another into a state, which is lost where one is null or missing: what is done with
-- those in front and what is left to do are the whole.
use Rattle.std.proofs.Common.{◌≡◌, ℕ, ◌+◌, ◌<◌, List, [], ◌∷◌, map, length, drop, fold, get_or, refl, sym, ap, ◌∙◌}
use Rattle.std.specs.Prelude.{Option, Some, None, Ok, Err}
use Rattle.std.proofs.lemmas.List.{drop_more}
use Rattle.bson_value.specs.declared.eval_code.EvalCode.{EvalCode}
use Rattle.bson_value.specs.Operands.{Operand, operand_map, both, all}
use Rattle.value_ops.specs.Folded.{with_operand, after}

module _ {A S : Type 0} (step : S → A → S) where
  pub after_start : (s : S) (r : Operand (List A)) → after step (Some s) r ≡ operand_map (fold step s) r
  after_start s (Err c) = refl
  after_start s (Ok x) = refl

  pub after_end : (s : Option S) → after step s (Ok (Some [])) ≡ Ok s
  after_end None = refl
  after_end (Some s) = refl

  pub after_more : (s : Option S) (x : Option A) (r : Operand (List A)) →
      after step s (operand_map (λ p. p.0 ∷ p.1) (both (Ok x) r)) ≡ after step (with_operand step s x) r
  after_more None None (Err c) = refl
  after_more None (Some x) (Err c) = refl
  after_more (Some s) None (Err c) = refl
  after_more (Some s) (Some x) (Err c) = refl
  after_more None None (Ok r) = refl
  after_more None (Some x) (Ok r) = refl
  after_more (Some s) None (Ok r) = refl
  after_more (Some s) (Some x) (Ok None) = refl
  after_more (Some s) (Some x) (Ok (Some xs)) = refl

  -- at a place of the operands
  module _ {V : Type 0} (read : V → Operand A) (vs : List V) (i : ℕ) (v : V) (lt : i < length vs) (here : v ≡ get_or vs i v) where
    rest_is : all (map read (drop i vs)) ≡ all (read v ∷ map read (drop (i + 1) vs))
    rest_is = ap (λ (ws : List V). all (map read ws)) (drop_more vs i v lt) ∙ ap (λ (w : V). all (read w ∷ map read (drop (i + 1) vs))) (sym here)

    pub folds_on : (s : Option S) (x : Option A) → read v ≡ Ok x →
        after step s (all (map read (drop i vs))) ≡ after step (with_operand step s x) (all (map read (drop (i + 1) vs)))
    folds_on s x e =
        ap (after step s) rest_is
        ∙ ap (λ (o : Operand A). after step s (all (o ∷ map read (drop (i + 1) vs)))) e
        ∙ after_more s x (all (map read (drop (i + 1) vs)))

    pub folds_failed : (s : Option S) (c : EvalCode) → read v ≡ Err c → after step s (all (map read (drop i vs))) ≡ Err c
    folds_failed s c e =
        ap (after step s) rest_is ∙ ap (λ (o : Operand A). after step s (all (o ∷ map read (drop (i + 1) vs)))) e

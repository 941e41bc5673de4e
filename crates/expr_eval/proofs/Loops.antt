-- Steps of the loops over the elements of an array.
use Rattle.std.proofs.Common.{◌≡◌, ℕ, suc, ◌+◌, ◌<◌, List, [], ◌∷◌, ◌++◌, length, drop, refl, sym, ap, ◌∙◌, add-one}
use Rattle.std.specs.Prelude.{Option, Some, Result, Ok, slice_get}
use Rattle.std.proofs.Math.Seq.{drop-cons}
use Rattle.std.proofs.lemmas.Option.{get_or_from_slice_get}
use Rattle.bson_value.specs.Tree.{Tree}
use Rattle.bson_value.specs.Gives.{Fails}
use Rattle.bson_value.specs.Operands.{Outcome, or_null}
use Rattle.bson_value.specs.declared.eval_code.EvalCode.{EvalCode}
use Rattle.bson_value.specs.declared.errors.EvalError.{EvalError}
use Rattle.bson_value.specs.declared.errors.EvalError.TheVariants.{Code, Memory}
use Rattle.expr_tree.specs.Rows.{◌>>=◌, mapped, reduced}

-- the elements from the i-th on
pub members_at : (ts : List Tree) (i : ℕ) (t : Tree) → i < length ts → slice_get ts i ≡ Some t → drop i ts ≡ t ∷ drop (i + 1) ts
members_at ts i t lt p = drop-cons ts i t lt ∙ ap (λ (x : Tree). x ∷ drop (suc i) ts) (get_or_from_slice_get ts i t t p) ∙ rw add-one refl

-- what fails at its head fails
pub stays : {A B : Type 0} (e : EvalError) (r : Result A EvalCode) (f : A → Result B EvalCode) (s : Result B EvalCode) → (r >>= f) ≡ s → Fails e r → Fails e s
stays Memory r f s p h = tt
stays (Code c) r f s p h = sym p ∙ rw h refl

module _ (go : Tree → Outcome) (ts : List Tree) (i : ℕ) (t : Tree) (lt : i < length ts) (at : slice_get ts i ≡ Some t) where
  each_at : (front : List Tree) (s : Result (List Tree) EvalCode) → mapped go front (drop i ts) ≡ s → (go t >>= λ v. mapped go (front ++ or_null v ∷ []) (drop (i + 1) ts)) ≡ s
  each_at front s p = ap (mapped go front) (sym (members_at ts i t lt at)) ∙ p

  pub each_fails : (front : List Tree) (s : Result (List Tree) EvalCode) (e : EvalError) → mapped go front (drop i ts) ≡ s → Fails e (go t) → Fails e s
  each_fails front s e p h = stays e (go t) (λ v. mapped go (front ++ or_null v ∷ []) (drop (i + 1) ts)) s (each_at front s p) h

  pub each_goes : (front : List Tree) (s : Result (List Tree) EvalCode) (v : Option Tree) → mapped go front (drop i ts) ≡ s → go t ≡ Ok v → mapped go (front ++ or_null v ∷ []) (drop (i + 1) ts) ≡ s
  each_goes front s v p h = ap (λ (r : Outcome). r >>= λ w. mapped go (front ++ or_null w ∷ []) (drop (i + 1) ts)) (sym h) ∙ each_at front s p

module _ (go : Option Tree → Tree → Outcome) (ts : List Tree) (i : ℕ) (t : Tree) (w : Option Tree) (lt : i < length ts) (at : slice_get ts i ≡ Some t) where
  reduce_at : (s : Outcome) → reduced go w (drop i ts) ≡ s → (go w t >>= λ v. reduced go v (drop (i + 1) ts)) ≡ s
  reduce_at s p = ap (reduced go w) (sym (members_at ts i t lt at)) ∙ p

  pub reduce_fails : (s : Outcome) (e : EvalError) → reduced go w (drop i ts) ≡ s → Fails e (go w t) → Fails e s
  reduce_fails s e p h = stays e (go w t) (λ v. reduced go v (drop (i + 1) ts)) s (reduce_at s p) h

  pub reduce_goes : (s : Outcome) (v : Option Tree) → reduced go w (drop i ts) ≡ s → go w t ≡ Ok v → reduced go v (drop (i + 1) ts) ≡ s
  reduce_goes s v p h = ap (λ (r : Outcome). r >>= λ x. reduced go x (drop (i + 1) ts)) (sym h) ∙ reduce_at s p

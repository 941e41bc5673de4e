-- A refusal of a step, or of what comes after it.
use Rattle.std.proofs.Common.{◌≡◌, ◌⊎◌, Bool, true, false, cond, Ok, Err, inl, inr, refl, ap}
use Rattle.aggregate_command.specs.declared.status.Status.{Status}
use Rattle.aggregate_command.specs.Status.{Step, ◌>>=◌}

-- a refusal of the next step, behind a value
pub record Next {A B : Type 0} (step : Step A) (next : A → Step B) (s : Status) : Type 0 where
  pub value : A
  pub first : step ≡ Ok value
  pub later : next value ≡ Err s

pub either_step : {A B : Type 0} (step : Step A) (next : A → Step B) (s : Status) → (step >>= next) ≡ Err s → (step ≡ Err s) ⊎ Next step next s
either_step (Ok x) next s e = inr (record { value = x; first = refl; later = e })
either_step (Err r) next s e = inl cc

pub stops : {A B : Type 0} (step : Step A) (next : A → Step B) (s : Status) → step ≡ Err s → (step >>= next) ≡ Err s
stops step next s e = ap (λ t. t >>= next) e

pub goes_on : {A B : Type 0} (step : Step A) (next : A → Step B) (x : A) → step ≡ Ok x → (step >>= next) ≡ next x
goes_on step next x e = ap (λ t. t >>= next) e

pub same_refusal : {A : Type 0} (r s : Status) → let t : Step A = Err r in t ≡ Err s → r ≡ s
same_refusal r s e = cc

-- a step that tests
pub if_ok : {A : Type 0} (b : Bool) (s : Status) (x y : A) → cond b (Ok x) (Err s) ≡ Ok y → (b ≡ true) × (x ≡ y)
if_ok true s x y e = (refl, cc)
if_ok false s x y e = absurd cc

pub if_bad : {A : Type 0} (b : Bool) (r s : Status) (x : A) → cond b (Ok x) (Err r) ≡ Err s → (b ≡ false) × (r ≡ s)
if_bad true r s x e = absurd cc
if_bad false r s x e = (refl, cc)

pub if_true : {A : Type 0} (b : Bool) (s : Status) (x : A) → b ≡ true → cond b (Ok x) (Err s) ≡ Ok x
if_true true s x e = refl
if_true false s x e = absurd cc

pub if_false : {A : Type 0} (b : Bool) (s : Status) (x : A) → b ≡ false → cond b (Ok x) (Err s) ≡ Err s
if_false true s x e = absurd cc
if_false false s x e = refl

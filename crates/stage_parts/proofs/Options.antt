-- Answers that may not be there, one after another.
use Rattle.std.proofs.Common.{◌≡◌, Bool, true, false, refl, inl, inr, sym, ap, ◌∙◌}
use Rattle.std.specs.Prelude.{Option, Some, None, ◌⊎◌, ◌&&◌}
use Rattle.expr_read.specs.declared.errors.FormError.{FormError}
use Rattle.expr_read.specs.declared.errors.FormError.TheVariants.{Form, Memory}
use Rattle.expr_read.specs.Reading.{only_if, ◌>>=◌}
use Rattle.expr_read.specs.Reads.{Refuses}

pub some_same : {A : Type 0} (x y : A) → Some x ≡ Some y → x ≡ y
some_same x y e = cc

pub bind_some : {A B : Type 0} (o : Option A) (f : A → Option B) (y : B) → (o >>= f) ≡ Some y → (x : A) × (o ≡ Some x) × (f x ≡ Some y)
bind_some None f y e = absurd cc
bind_some (Some x) f y e = (x, refl, e)

pub only_some : {A : Type 0} (b : Bool) (o : Option A) (y : A) → only_if b o ≡ Some y → (b ≡ true) × (o ≡ Some y)
only_some true o y e = (refl, e)
only_some false o y e = absurd cc

pub both : (a b : Bool) → (a && b) ≡ true → (a ≡ true) × (b ≡ true)
both true b e = (refl, e)
both false b e = absurd cc

pub decided : (b : Bool) → (b ≡ true) ⊎ (b ≡ false)
decided true = inl refl
decided false = inr refl

pub stays : {A B : Type 0} (e : FormError) (o : Option A) (f : A → Option B) (s : Option B) → (o >>= f) ≡ s → Refuses e o → Refuses e s
stays Memory o f s p h = tt
stays Form o f s p h = sym p ∙ rw h refl

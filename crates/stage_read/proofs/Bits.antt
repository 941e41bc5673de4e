-- Small facts on truth values, options and names.
use Rattle.std.proofs.Common.{◌≡◌, ℕ, Bool, true, false, List, refl, arith, inl, inr}
use Rattle.std.specs.Prelude.{◌⊎◌, Option, Some, None, ◌&&◌, ◌||◌, not}
use Rattle.std.specs.Str.{bytes_eq}
use Rattle.std.proofs.lemmas.Slice.Eq.{bytes_eq-Decides}
use Rattle.expr_read.specs.Reading.{only_if, ◌>>=◌}

pub decided : (b : Bool) → (b ≡ true) ⊎ (b ≡ false)
decided true = inl refl
decided false = inr refl

pub some_same : {A : Type 0} (x y : A) → Some x ≡ Some y → x ≡ y
some_same x y e = cc

pub no_some : {A : Type 0} (x : A) → None ≡ Some x → ⊥
no_some x e = absurd cc

pub bind_some : {A B : Type 0} (o : Option A) (f : A → Option B) (y : B) → (o >>= f) ≡ Some y → (x : A) × (o ≡ Some x) × (f x ≡ Some y)
bind_some None f y e = absurd cc
bind_some (Some x) f y e = (x, refl, e)

pub only_some : {A : Type 0} (b : Bool) (o : Option A) (y : A) → only_if b o ≡ Some y → (b ≡ true) × (o ≡ Some y)
only_some true o y e = (refl, e)
only_some false o y e = absurd cc

pub same_bytes : (n m : List ℕ) → bytes_eq n m ≡ true → n ≡ m
same_bytes n m e = grind (arith, bytes_eq-Decides n m, e)

pub neither : (a b : Bool) → (a || b) ≡ false → (a ≡ false) × (b ≡ false)
neither true b e = absurd cc
neither false b e = (refl, e)

pub none_of : (a b : Bool) → a ≡ false → b ≡ false → (a || b) ≡ false
none_of true b e f = absurd cc
none_of false b e f = f

pub both : (a b : Bool) → (a && b) ≡ true → (a ≡ true) × (b ≡ true)
both true b e = (refl, e)
both false b e = absurd cc

pub allowed_if : (m q : Bool) → (not m || q) ≡ true → m ≡ true → q ≡ true
allowed_if true q e h = e
allowed_if false q e h = absurd cc

pub if_allowed : (m q : Bool) → (m ≡ true → q ≡ true) → (not m || q) ≡ true
if_allowed true q h = h refl
if_allowed false q h = refl

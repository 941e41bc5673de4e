-- The test of a path's text against what a path's text is.
use Rattle.std.proofs.Common.{◌≡◌, ℕ, Bool, true, false, List, [], ◌∷◌, length, refl, ap, arith}
use Rattle.std.specs.Prelude.{Some, None, ◌&&◌, not, ◌==◌, nat_le}
use Rattle.std.specs.List.{list_all, AllByRecursion}
use Rattle.std.specs.Str.{is_utf8}
use Rattle.std.proofs.lemmas.Bool.{leb-true, le-leb, false_from_ne_true}
use Rattle.std.proofs.lemmas.Str.{IsUtf8-from_is_utf8, is_utf8-from_IsUtf8}
use Rattle.std.proofs.lemmas.List.Elements.{recursion_from_All, All-from_recursion}
use Rattle.std.proofs.lemmas.List.Splits.{length-slice_split}
use Rattle.bson_value.specs.Path.{IsStep, IsPathText, pieces}
use Rattle.bson_value.specs.Paths.{Steps}
use Rattle.expr_read.specs.Reading.{is_step, path_in, only_if}

pub both : (a b : Bool) → (a && b) ≡ true → (a ≡ true) × (b ≡ true)
both true b e = (refl, e)
both false b e = absurd cc

to_step : (s : List ℕ) → IsStep s → is_step s ≡ true
to_step [] h = absurd (let f : ⊥ = omega (arith, h.some) in f)
to_step (b ∷ bs) h = rw (is_utf8-from_IsUtf8 (b ∷ bs) h.utf8, false_from_ne_true (b == 36) (λ e. h.no_dollar (grind (arith, e)))) h.no_zero

from_step : (s : List ℕ) → is_step s ≡ true → IsStep s
from_step [] e = absurd cc
from_step (b ∷ bs) e =
    let p = both (is_utf8 (b ∷ bs) && not (b == 36)) (list_all (λ c. not (c == 0)) (b ∷ bs)) e in
    let q = both (is_utf8 (b ∷ bs)) (not (b == 36)) p.0 in
    record { utf8 = IsUtf8-from_is_utf8 (b ∷ bs) q.0; some = omega arith; no_dollar = λ d. (let n : not (b == 36) ≡ false = rw d refl in absurd cc); no_zero = p.1 }

to_steps : (ss : Steps) → AllByRecursion IsStep ss → list_all is_step ss ≡ true
to_steps [] h = refl
to_steps (s ∷ ss) h = rw (to_step s h.0) (to_steps ss h.1)

from_steps : (ss : Steps) → list_all is_step ss ≡ true → AllByRecursion IsStep ss
from_steps [] e = tt
from_steps (s ∷ ss) e = let p = both (is_step s) (list_all is_step ss) e in (from_step s p.0, from_steps ss p.1)

pub path_read : (s : List ℕ) (p : Steps) → IsPathText s → pieces s ≡ p → path_in s ≡ Some p
unfolding path_in
path_read s p h e = rw (is_utf8-from_IsUtf8 s h.utf8, le-leb (length (pieces s)) 100 h.steps.few, to_steps (pieces s) (recursion_from_All IsStep (pieces s) h.steps.each)) (ap Some e)

module _ (s : List ℕ) (h : (is_utf8 s && nat_le (length (pieces s)) 100 && list_all is_step (pieces s)) ≡ true) where
  parts : (is_utf8 s ≡ true) × (nat_le (length (pieces s)) 100 ≡ true) × (list_all is_step (pieces s) ≡ true)
  parts = let p = both (is_utf8 s && nat_le (length (pieces s)) 100) (list_all is_step (pieces s)) h in let q = both (is_utf8 s) (nat_le (length (pieces s)) 100) p.0 in (q.0, q.1, p.1)

  is_path_text : IsPathText s
  is_path_text = record { utf8 = IsUtf8-from_is_utf8 s parts.0; steps = record { some = omega (arith, length-slice_split (λ b. b == 46) s); few = leb-true (length (pieces s)) 100 parts.1; each = All-from_recursion IsStep (pieces s) (from_steps (pieces s) parts.2) } }

pub path_refused : (s : List ℕ) → ¬ IsPathText s → path_in s ≡ None
unfolding path_in
path_refused s h = rw (false_from_ne_true (is_utf8 s && nat_le (length (pieces s)) 100 && list_all is_step (pieces s)) (λ e. h (is_path_text s e))) refl

chosen : {A : Type 0} (b : Bool) (x y : A) → only_if b (Some x) ≡ Some y → (b ≡ true) × (x ≡ y)
chosen true x y e = (refl, cc)
chosen false x y e = absurd cc

pub path_is : (s : List ℕ) (p : Steps) → path_in s ≡ Some p → IsPathText s × (pieces s ≡ p)
unfolding path_in
path_is s p e = let h = chosen (is_utf8 s && nat_le (length (pieces s)) 100 && list_all is_step (pieces s)) (pieces s) p e in (is_path_text s h.0, h.1)

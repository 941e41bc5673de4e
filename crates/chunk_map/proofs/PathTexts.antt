-- The test of a path's text.
use Rattle.std.proofs.Common.{◌≡◌, ℕ, Bool, true, false, List, [], ◌∷◌, length, refl, ap, arith, ne_eqb}
use Rattle.std.specs.Prelude.{nat_le, ◌==◌, ◌&&◌, not, slice_index}
use Rattle.std.specs.List.{AllByRecursion, list_all}
use Rattle.std.specs.Str.{is_utf8}
use Rattle.std.proofs.lemmas.Str.{IsUtf8-from_is_utf8, is_utf8-from_IsUtf8}
use Rattle.std.proofs.lemmas.Bool.{leb-true, le-leb, not-true}
use Rattle.std.proofs.lemmas.List.Splits.{length-slice_split}
use Rattle.std.proofs.lemmas.List.Elements.{recursion_from_All, All-from_recursion}
use Rattle.bson_value.specs.Path.{IsStep, IsPathText, pieces}
use Rattle.chunk_map.specs.Form.{is_step, is_path_text}

both : (a b : Bool) → (a && b) ≡ true → (a ≡ true) × (b ≡ true)
both true b e = (refl, e)
both false b e = absurd cc

two : (a b : Bool) → a ≡ true → b ≡ true → (a && b) ≡ true
two a b e f = rw (e, f) refl

step_is : (s : List ℕ) → is_step s ≡ true → IsStep s
step_is s e =
    let u = both (is_utf8 s) _ e in
    let n = both (nat_le 1 (length s)) _ u.1 in
    let d = both (not (slice_index s 0 == 36)) _ n.1 in
    record {
      utf8 = IsUtf8-from_is_utf8 s u.0;
      some = leb-true _ _ n.0;
      no_dollar = λ h. let f = not-true _ d.0 in let g : (slice_index s 0 == 36) ≡ true = rw h refl in cc;
      no_zero = d.1;
    }

is_step_of : (s : List ℕ) → IsStep s → is_step s ≡ true
is_step_of s h =
    let dollar : not (slice_index s 0 == 36) ≡ true = ap not (ne_eqb (slice_index s 0) 36 h.no_dollar) in
    two (is_utf8 s) _ (is_utf8-from_IsUtf8 s h.utf8) (two (nat_le 1 (length s)) _ (le-leb _ _ h.some) (two (not (slice_index s 0 == 36)) _ dollar h.no_zero))

steps_are : (ss : List (List ℕ)) → list_all is_step ss ≡ true → AllByRecursion IsStep ss
steps_are [] e = tt
steps_are (s ∷ ss) e = let h = both (is_step s) (list_all is_step ss) e in (step_is s h.0, steps_are ss h.1)

are_steps : (ss : List (List ℕ)) → AllByRecursion IsStep ss → list_all is_step ss ≡ true
are_steps [] h = refl
are_steps (s ∷ ss) h = two (is_step s) (list_all is_step ss) (is_step_of s h.0) (are_steps ss h.1)

pub text_is_path : (t : List ℕ) → is_path_text t ≡ true → IsPathText t
unfolding is_path_text
text_is_path t e =
    let u = both (is_utf8 t) _ e in
    let f = both (nat_le (length (pieces t)) 100) _ u.1 in
    record {
      utf8 = IsUtf8-from_is_utf8 t u.0;
      steps = record {
        some = omega (arith, length-slice_split (λ b. b == 46) t);
        few = leb-true _ _ f.0;
        each = All-from_recursion IsStep (pieces t) (steps_are (pieces t) f.1);
      };
    }

pub path_is_text : (t : List ℕ) → IsPathText t → is_path_text t ≡ true
unfolding is_path_text
path_is_text t h = two (is_utf8 t) _ (is_utf8-from_IsUtf8 t h.utf8) (two (nat_le (length (pieces t)) 100) _ (le-leb _ _ h.steps.few) (are_steps (pieces t) (recursion_from_All IsStep (pieces t) h.steps.each)))

pub no_path : (t : List ℕ) → ¬ IsPathText t → is_path_text t ≡ false
no_path t n =
    elim (is_path_text t) as (λ b. is_path_text t ≡ b → b ≡ false) [
      | true ↦ λ e. absurd (n (text_is_path t e))
      | false ↦ λ e. refl
    ] refl

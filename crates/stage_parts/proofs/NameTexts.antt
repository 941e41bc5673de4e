-- The test of a name's bytes against what a name is, and of all names of a document.
use Rattle.std.proofs.Common.{◌≡◌, ℕ, zero, suc, ◌+◌, Bool, true, false, List, [], ◌∷◌, drop, refl, sym, ap, ◌∙◌}
use Rattle.std.specs.Prelude.{Option, Some, None, ◌&&◌, not, ◌==◌, slice_get}
use Rattle.std.specs.List.{list_all}
use Rattle.std.specs.Option.{option_map}
use Rattle.std.specs.Str.{is_utf8}
use Rattle.std.proofs.Common.{add-one}
use Rattle.std.proofs.lemmas.Bool.{false_from_ne_true}
use Rattle.std.proofs.lemmas.Str.{IsUtf8-from_is_utf8, is_utf8-from_IsUtf8}
use Rattle.bson_value.specs.Proper.{IsName}
use Rattle.bson_value.specs.Tree.{Tree}
use Rattle.expr_read.specs.Reading.{only_if}
use Rattle.stage_parts.specs.Names.{is_name}
use Rattle.stage_parts.proofs.Options.{both}

pub name_read : (n m : List ℕ) → IsName n → m ≡ n → only_if (is_name n) (Some n) ≡ Some m
name_read n m h e = rw (is_utf8-from_IsUtf8 n h.text, h.no_zero) (ap Some (sym e))

is_named : (n : List ℕ) → is_name n ≡ true → IsName n
is_named n e = let p = both (is_utf8 n) (list_all (λ b. not (b == 0)) n) e in record { text = IsUtf8-from_is_utf8 n p.0; no_zero = p.1 }

pub name_refused : (n : List ℕ) → ¬ IsName n → only_if (is_name n) (Some n) ≡ None
name_refused n h = rw (false_from_ne_true (is_name n) (λ e. h (is_named n e))) refl

-- a turn of the loop over a document's names
all_at : (P : List ℕ → Bool) (ps : List (List ℕ × Tree)) (i : ℕ) (k : List ℕ) → option_map (λ (p : List ℕ × Tree). p.0) (slice_get ps i) ≡ Some k → list_all (λ p. P p.0) (drop i ps) ≡ (P k && list_all (λ p. P p.0) (drop (i + 1) ps))
all_at P [] i k e = absurd cc
all_at P (p ∷ ps) zero k e = let d : p.0 ≡ k = cc in rw (← d) refl
all_at P (p ∷ ps) (suc i) k e = rw add-one (rw add-one at (all_at P ps i k e))

pub all_stops : (P : List ℕ → Bool) (ps : List (List ℕ × Tree)) (i : ℕ) (k : List ℕ) → option_map (λ (p : List ℕ × Tree). p.0) (slice_get ps i) ≡ Some k → P k ≡ false → (s : Bool) → list_all (λ p. P p.0) (drop i ps) ≡ s → false ≡ s
all_stops P ps i k e f s h = sym (all_at P ps i k e ∙ rw f refl) ∙ h

pub all_goes : (P : List ℕ → Bool) (ps : List (List ℕ × Tree)) (i : ℕ) (k : List ℕ) → option_map (λ (p : List ℕ × Tree). p.0) (slice_get ps i) ≡ Some k → P k ≡ true → (s : Bool) → list_all (λ p. P p.0) (drop i ps) ≡ s → list_all (λ p. P p.0) (drop (i + 1) ps) ≡ s
all_goes P ps i k e f s h = sym (all_at P ps i k e ∙ rw f refl) ∙ h

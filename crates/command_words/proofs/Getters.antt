-- What the getters of `clap` answer.
use Rattle.std.proofs.Common.{◌≡◌, ◌∙◌, Bool, true, false, refl, sym, ap, List, [], Option, Some, None, codes, map, option_map, is_some, bytes_eq, true≢false}
use Rattle.std.specs.Prelude.{unwrap_or}
use Rattle.std.specs.Borrow.{Bor}
use Rattle.std.specs.Option.{UnwrapsOrElse}
use Rattle.command_words.specs.App.{flag_text}
use Rattle.command_words.specs.Given.{Word}

pub unwrapped : (o : Option (Bor (List (Bor Word)))) (r : Bor (List (Bor Word))) → UnwrapsOrElse o (λ x. x.now ≡ []) r
    → map (λ w. w.now) r.now ≡ unwrap_or (option_map (λ s. map (λ w. w.now) s.now) o) []
unwrapped None r h = ap (map (λ w. w.now)) h
unwrapped (Some x) r h = ap (λ (b : Bor (List (Bor Word))). map (λ w. w.now) b.now) h

pub flag_is : (text : Word) (b : Bool) → text ≡ flag_text b → bytes_eq text (codes "true") ≡ b
flag_is text true e = rw e refl
flag_is text false e = rw e refl

pub text_is : (o : Option (Bor Word)) (text : Bor Word) (t : Word) → o ≡ Some text → option_map (λ s. s.now) o ≡ Some t → text.now ≡ t
text_is o text t e h = ap (λ x. unwrap_or x []) (sym (ap (option_map (λ (s : Bor Word). s.now)) e) ∙ h)

pub flag_missing : (o : Option (Bor Word)) (t : Word) → o ≡ None → option_map (λ s. s.now) o ≡ Some t → ⊥
flag_missing o t e h = true≢false (sym (sym (ap (λ (x : Option (Bor Word)). is_some (option_map (λ s. s.now) x)) e) ∙ ap is_some h))

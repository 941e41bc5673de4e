-- What the words ask for.
use Rattle.std.proofs.Common.{◌≡◌, ◌↔◌, ℕ, Bool, true, false, cond, List, Option, Some, None, Ok, Err, inl, inr, refl, sym, ap, subst, ◌∙◌}
use Rattle.command_words.specs.declared.mode.Mode.{Mode}
use Rattle.command_words.specs.declared.mode.Mode.TheVariants.{Run, Explain, Check, Make, Work}
use Rattle.command_words.specs.declared.run_options.RunOptions.{RunOptions}
use Rattle.command_words.specs.Words.{mode_of}
use Rattle.command_words.specs.Written.{IsMode}
use Rattle.aggregate_command.specs.declared.request.Request.{Request}
use Rattle.aggregate_command.specs.declared.status.Status.{Status}
use Rattle.aggregate_command.specs.declared.status.Status.TheVariants.{NotBuilt, Usage}
use Rattle.aggregate_command.specs.Request.{request, request_by, request_in, requested}
use Rattle.aggregate_command.specs.Meaning.{AsksFor}
use Rattle.aggregate_command.proofs.Meanings.{asked_ok, requested_is}
use Rattle.call_laws.specs.Refusals.{HaveNoReading, IsUnbuiltMode, AskForUnbuilt, AskFor, as_run, as_check}
use Rattle.call_laws.proofs.Sequel.{same_refusal}

-- words ask for a mode exactly where they are written so
abbrev pub ReadsModes : Type 0
ReadsModes = (words : List (List ℕ)) (m : Mode) → (mode_of words ≡ Some m) ↔ IsMode words m

-- why words are refused
abbrev pub WordsRefused : List (List ℕ) → Status → Type 0
WordsRefused words Usage = HaveNoReading words
WordsRefused words NotBuilt = AskForUnbuilt words
WordsRefused words s = ⊥

module _ (law : ReadsModes) (words : List (List ℕ)) where
  asked_in : (r : Request) → AsksFor (mode_of words) r → AskFor words r.cluster r.command
  asked_in r (inl a) = as_run a.options ((law words (Run r.cluster r.command a.options)).0 a.is) a.no_stats
  asked_in r (inr a) = as_check ((law words (Check r.cluster r.command)).0 a.is)

  pub asked_for : (r : Request) → requested words ≡ Ok r → AskFor words r.cluster r.command
  asked_for r e = asked_in r (asked_ok (mode_of words) r (sym (requested_is words) ∙ e))

  mode_asked : (mode : Mode) (r : Request) → IsMode words mode → request_by mode ≡ Ok r → requested words ≡ Ok r
  mode_asked mode r m e = requested_is words ∙ ap request_in ((law words mode).1 m) ∙ e

  pub asks : (cluster command : List ℕ) → AskFor words cluster command → (runs : Bool) × (requested words ≡ Ok (request cluster command runs))
  asks cluster command (as_run options m none) =
      (true, mode_asked (Run cluster command options) (request cluster command true) m (ap (λ stats. cond stats (Err NotBuilt) (Ok (request cluster command true))) none))
  asks cluster command (as_check m) = (false, mode_asked (Check cluster command) (request cluster command false) m refl)

  unbuilt_is : (mode : Mode) (s : Status) → mode_of words ≡ Some mode → IsUnbuiltMode mode → NotBuilt ≡ s → WordsRefused words s
  unbuilt_is mode s is unbuilt e = subst (WordsRefused words) e (record { mode = mode; asked = (law words mode).0 is; unbuilt = unbuilt })

  run_refused : (stats : Bool) (a b : List ℕ) (o : RunOptions) (s : Status) → o.stats ≡ stats → mode_of words ≡ Some (Run a b o) → cond stats (Err NotBuilt) (Ok (request a b true)) ≡ Err s → WordsRefused words s
  run_refused true a b o s stats is e = unbuilt_is (Run a b o) s is stats (same_refusal NotBuilt s e)
  run_refused false a b o s stats is e = absurd cc

  mode_refused : (mode : Option Mode) (s : Status) → mode_of words ≡ mode → request_in mode ≡ Err s → WordsRefused words s
  mode_refused None s is e = subst (WordsRefused words) (same_refusal Usage s e) (λ m a. let f : mode_of words ≡ Some m = (law words m).1 a in absurd cc)
  mode_refused (Some (Run a b o)) s is e = run_refused o.stats a b o s refl is e
  mode_refused (Some (Explain a b)) s is e = unbuilt_is (Explain a b) s is tt (same_refusal NotBuilt s e)
  mode_refused (Some (Check a b)) s is e = absurd cc
  mode_refused (Some (Make part number count)) s is e = unbuilt_is (Make part number count) s is tt (same_refusal NotBuilt s e)
  mode_refused (Some (Work number count o)) s is e = unbuilt_is (Work number count o) s is tt (same_refusal NotBuilt s e)

  pub words_refused : (s : Status) → requested words ≡ Err s → WordsRefused words s
  words_refused s e = mode_refused (mode_of words) s refl (sym (requested_is words) ∙ e)

  is_none : (mode : Option Mode) → ((m : Mode) → ¬ (mode ≡ Some m)) → mode ≡ None
  is_none None none = refl
  is_none (Some m) none = absurd (none m refl)

  pub no_reading : HaveNoReading words → requested words ≡ Err Usage
  no_reading none = requested_is words ∙ ap request_in (is_none (mode_of words) (λ m e. none m ((law words m).0 e)))

  mode_unbuilt : (mode : Mode) → IsUnbuiltMode mode → request_by mode ≡ Err NotBuilt
  mode_unbuilt (Run a b o) stats = ap (λ stats. cond stats (Err NotBuilt) (Ok (request a b true))) stats
  mode_unbuilt (Explain a b) u = refl
  mode_unbuilt (Check a b) u = absurd u
  mode_unbuilt (Make part number count) u = refl
  mode_unbuilt (Work number count o) u = refl

  pub unbuilt_mode : AskForUnbuilt words → requested words ≡ Err NotBuilt
  unbuilt_mode a = requested_is words ∙ ap request_in ((law words a.mode).1 a.asked) ∙ mode_unbuilt a.mode a.unbuilt

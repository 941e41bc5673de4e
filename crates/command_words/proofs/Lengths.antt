-- Positional words that are no command's.
use Rattle.std.proofs.Common.{◌≡◌, refl, List, [], ◌∷◌, None, length, map, Bor}
use Rattle.command_words.specs.Given.{Given, Word}
use Rattle.command_words.specs.Words.{mode_by}

pub other_lengths : (g : Given) (ps : List (Bor Word)) → (length ps ≡ 3 → ⊥) → (length ps ≡ 4 → ⊥) → mode_by g (map (λ w. w.now) ps) ≡ None
other_lengths g [] three four = refl
other_lengths g (a ∷ []) three four = refl
other_lengths g (a ∷ b ∷ []) three four = refl
other_lengths g (a ∷ b ∷ c ∷ []) three four = absurd (three refl)
other_lengths g (a ∷ b ∷ c ∷ d ∷ []) three four = absurd (four refl)
other_lengths g (a ∷ b ∷ c ∷ d ∷ e ∷ rest) three four = refl

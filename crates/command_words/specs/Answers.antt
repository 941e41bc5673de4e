-- When an answer is the mode of the words.
use Rattle.std.specs.Prelude.{◌≡◌, Option, Some, None, Result, Ok, Err, ⊤}
use Rattle.command_words.specs.declared.errors.WordsError.{WordsError}
use Rattle.command_words.specs.declared.errors.WordsError.TheVariants.{Usage, Memory}

-- the answer is what there is, Usage where there is nothing, or memory was refused
abbrev pub Answers : {A : Type 0} → Option A → Result A WordsError → Type 0
Answers there (Ok a) = there ≡ Some a
Answers there (Err Usage) = there ≡ None
Answers there (Err Memory) = ⊤

-- The words that the program answers itself.
use Rattle.std.specs.Prelude.{ℕ, Bool, false, List, [], ◌∷◌, codes}
use Rattle.std.specs.Str.{bytes_eq}

-- the one word `--help`
abbrev pub asks_help : List (List ℕ) → Bool
asks_help (word ∷ []) = bytes_eq word (codes "--help")
asks_help _ = false

-- the one word `--version`
abbrev pub asks_version : List (List ℕ) → Bool
asks_version (word ∷ []) = bytes_eq word (codes "--version")
asks_version _ = false

abbrev pub version_line : List ℕ
version_line = codes "mongopipe 0.1.0\n"

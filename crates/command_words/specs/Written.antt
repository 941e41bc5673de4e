-- How a command line is written: the relation that `mode_of` computes.
use Rattle.std.specs.Prelude.{◌≡◌, ◌==◌, Bool, true, false, not, List, [], ◌∷◌, ◌++◌, Some, codes, flat_map, map}
use Rattle.std.specs.List.{AllByRecursion}
use Rattle.command_words.specs.declared.mode.Mode.{Mode}
use Rattle.command_words.specs.Given.{Given, Kind, Piece, Word, given_by, kind_of, once, option, place}
use Rattle.command_words.specs.Given as given
use Rattle.command_words.specs.Words.{mode_in}

-- a positional word, an option with its value as the next word or behind `=` (61), or a flag
pub data Item : Type 0 where
  positional : Word → Item
  apart : Word → Word → Item
  joined : Word → Word → Item
  flag : Word → Item

abbrev pub written : Item → List Word
written (positional w) = w ∷ []
written (apart name value) = (codes "--" ++ name) ∷ value ∷ []
written (joined name value) = (codes "--" ++ name ++ 61 ∷ value) ∷ []
written (flag name) = (codes "--" ++ name) ∷ []

abbrev pub piece_of : Item → Piece
piece_of (positional w) = (place, w ∷ [])
piece_of (apart name value) = (name, value ∷ [])
piece_of (joined name value) = (name, value ∷ [])
piece_of (flag name) = (name, [])

-- nonempty, and begins with no hyphen (45)
abbrev pub is_plain : Word → Bool
is_plain [] = false
is_plain (c ∷ cs) = not (c == 45)

abbrev pub IsGood : Item → Type 0
IsGood (positional w) = is_plain w ≡ true
IsGood (apart name value) = (kind_of name ≡ option) × (is_plain value ≡ true)
IsGood (joined name value) = kind_of name ≡ option
IsGood (flag name) = kind_of name ≡ given.flag

-- the words are items in a row, of which no option comes twice, and give g
pub record IsCommandLine (words : List Word) (g : Given) : Type 0 where
  pub items : List Item
  pub good : AllByRecursion IsGood items
  pub words_are : flat_map written items ≡ words
  pub once : once (map piece_of items) ≡ true
  pub gives : given_by (map piece_of items) ≡ g

-- the words are a command line that gives what the mode asks for
abbrev pub IsMode : List Word → Mode → Type 0
IsMode words m = (g : Given) × IsCommandLine words g × (mode_in g ≡ Some m)

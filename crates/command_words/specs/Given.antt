-- What is given on the command line: positional words, and options anywhere among them, written `--name value`,
-- `--name=value` or, for a flag, `--name`.
use Rattle.std.specs.Prelude.{ℕ, ◌==◌, ◌&&◌, ◌||◌, Bool, true, false, not, List, [], ◌∷◌, ◌++◌, Option, Some, None, option_map, option_and_then, is_some, codes, slice_get, if◌then◌else◌}
use Rattle.std.specs.List.{list_all, list_any, before_first, after_first}
use Rattle.std.specs.Str.{bytes_eq}

abbrev pub Word : Type 0
Word = List ℕ

-- what follows a hyphen (45)
abbrev pub after_hyphen : Word → Option Word
after_hyphen [] = None
after_hyphen (c ∷ cs) = if c == 45 then Some cs else None

-- `name` or `name=value` (`=` is 61)
abbrev pub name_and_value : Word → Option (Word × Option Word)
name_and_value [] = None
name_and_value (c ∷ cs) = Some (
  before_first (λ x. x == 61) (c ∷ cs),
  if list_any (λ x. x == 61) (c ∷ cs) then Some (after_first (λ x. x == 61) (c ∷ cs)) else None,
)

-- `--name` or `--name=value`
abbrev pub long_name : Word → Option (Word × Option Word)
long_name word = option_and_then name_and_value (option_and_then after_hyphen (after_hyphen word))

-- the word is nonempty, and where it begins with a hyphen there are two and a byte more
abbrev pub is_word : Word → Bool
is_word [] = false
is_word (c ∷ cs) = not (c == 45) || is_some (long_name (c ∷ cs))

-- what a name after two hyphens stands for
pub data Kind : Type 0 where
  unknown : Kind
  flag : Kind
  option : Kind

abbrev pub kind_of : Word → Kind
kind_of name =
    if bytes_eq (codes "budget") name then option
    else (if bytes_eq (codes "batch") name then option
    else (if bytes_eq (codes "cache") name then option
    else (if bytes_eq (codes "arrival") name then option
    else (if bytes_eq (codes "stats") name then flag else unknown))))

-- a name with its values: one for an option or a positional word, none for a flag
abbrev pub Piece : Type 0
Piece = Word × List Word

abbrev pub and_then : Piece → Option (List Piece) → Option (List Piece)
and_then p = option_map (λ ps. p ∷ ps)

abbrev pub after_option : Word → Option Word → (Option Word → Option (List Piece)) → Option (List Piece)
after_option name (Some v) rest = and_then (name, v ∷ []) (rest None)
after_option name None rest = rest (Some name)

abbrev pub after_flag : Word → Option Word → (Option Word → Option (List Piece)) → Option (List Piece)
after_flag name (Some v) rest = None
after_flag name None rest = and_then (name, []) (rest None)

abbrev pub after_name : Kind → Word → Option Word → (Option Word → Option (List Piece)) → Option (List Piece)
after_name unknown name v rest = None
after_name flag name v rest = after_flag name v rest
after_name option name v rest = after_option name v rest

-- a word, where an option waits for its value or none does. `place` is the name of positional words
abbrev pub after_word : (Word → Kind) → Word → Option Word → Option (Word × Option Word) → Word → (Option Word → Option (List Piece)) → Option (List Piece)
after_word kind place (Some n) (Some p) w rest = None
after_word kind place (Some n) None w rest = and_then (n, w ∷ []) (rest None)
after_word kind place None (Some p) w rest = after_name (kind p.0) p.0 p.1 rest
after_word kind place None None w rest = and_then (place, w ∷ []) (rest None)

-- the words from the left, or nothing
unfoldable pub pieces : (Word → Kind) → Word → List Word → Option Word → Option (List Piece)
pieces kind place [] None = Some []
pieces kind place [] (Some n) = None
pieces kind place (w ∷ ws) waiting = after_word kind place waiting (long_name w) w (pieces kind place ws)

-- the name of positional words, which no option has
abbrev pub place : Word
place = codes "words"

-- a piece has this name
abbrev pub has : Word → List Piece → Bool
has name = list_any (λ p. bytes_eq p.0 name)

-- no option comes twice
abbrev pub once : List Piece → Bool
once [] = true
once (p ∷ ps) = (bytes_eq p.0 place || not (has p.0 ps)) && once ps

-- the value of an option
abbrev pub value : Word → List Piece → Option Word
value name [] = None
value name (p ∷ ps) = if bytes_eq p.0 name then slice_get p.1 0 else value name ps

-- the positional words, in order
abbrev pub places : List Piece → List Word
places [] = []
places (p ∷ ps) = if bytes_eq p.0 place then p.1 ++ places ps else places ps

-- the positional words, the value of each option, and whether the flag is there
pub record Given : Type 0 where
  pub places : List Word
  pub budget : Option Word
  pub batch : Option Word
  pub cache : Option Word
  pub arrival : Option Word
  pub stats : Bool

abbrev pub given_by : List Piece → Given
given_by ps = record {
  places = places ps;
  budget = value (codes "budget") ps;
  batch = value (codes "batch") ps;
  cache = value (codes "cache") ps;
  arrival = value (codes "arrival") ps;
  stats = has (codes "stats") ps;
}

-- the pieces, where none comes twice
abbrev pub single : List Piece → Option (List Piece)
single ps = if once ps then Some ps else None

-- what the words give
abbrev pub given : List Word → Option Given
given words = if list_all is_word words then option_map given_by (option_and_then single (pieces kind_of place words None)) else None

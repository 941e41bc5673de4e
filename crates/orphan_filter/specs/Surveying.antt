-- How far the survey of a file has come.
use Rattle.std.specs.Prelude.{◌≡◌, ℕ, List, Option, Some, None, Result, Ok, Err, true, false, Bool}
use Rattle.bson_value.specs.Paths.{Steps}
use Rattle.bson_value.specs.Tree.{Tree}
use Rattle.orphan_filter.specs.declared.errors.FileError.{FileError}
use Rattle.orphan_filter.specs.Reading.{Reading, Follows}
use Rattle.orphan_filter.specs.Survey.{first_array, IsFileVerdict}

-- the part that meets an array, if one does
abbrev pub IsArrayPart : Result (List Tree) ℕ → Option ℕ → Type 0
IsArrayPart (Ok key) part = part ≡ None
IsArrayPart (Err n) part = part ≡ Some n

-- none of the records that were read meets an array at the key
pub record HasNoArray (paths : List Steps) (r : Reading) (file : List ℕ) : Type 0 where
  pub follows : Follows r file
  pub none : first_array paths follows.before ≡ None

-- another record was read, or the file has ended, or reading came to what its records are
abbrev pub IsReadOn : List Steps → Result Bool FileError → Reading → List ℕ → Type 0
IsReadOn paths (Ok true) r file = HasNoArray paths r file
IsReadOn paths (Ok false) r file = IsFileVerdict paths (Ok tt) file
IsReadOn paths (Err e) r file = IsFileVerdict paths (Err e) file

-- How far a reader has come in the records of a file.
use Rattle.std.specs.Prelude.{◌≡◌, ℕ, ◌+◌, List, ◌++◌, length, drop, Option, None, Some}
use Rattle.bson_codec.specs.Records.{Document}
use Rattle.bson_codec.specs.Begun.{IsReadTo}
use Rattle.bson_codec.specs.Spelling.{IsSpelledAt}

-- the file by its id and its length, where the next record begins, how many records were given, and what was read of
-- the bytes that stand there
pub record Reading : Type 0 where
  pub id : ℕ
  pub len : ℕ
  pub place : ℕ
  pub given : ℕ
  pub ahead : List ℕ

-- what was read of the bytes at a place of a file is a front of them
pub record IsAlong (len place : ℕ) (ahead file : List ℕ) : Type 0 where
  pub size : len ≡ length file
  pub front : drop place file ≡ ahead ++ drop (place + length ahead) file

-- the reader has given the file's records up to its place
pub record Follows (r : Reading) (file : List ℕ) : Type 0 where
  pub along : IsAlong r.len r.place r.ahead file
  pub before : List Document
  pub count : length before ≡ r.given
  pub read : IsReadTo file before r.place

-- the record that comes next, or that the file has ended
abbrev pub IsNext : Option Document → Reading → Reading → List ℕ → Type 0
IsNext None old new file = (old.place ≡ length file) × Follows new file
IsNext (Some d) old new file = IsSpelledAt file old.place d new.place × Follows new file

-- How far the records of a file were read.
use Rattle.std.specs.Prelude.{◌≡◌, ℕ, List, ◌++◌, length, drop}
use Rattle.bson_codec.specs.Records.{Document, joined, AreShort}

-- these documents are spelled at the file's begin, up to this place
pub record IsReadTo (file : List ℕ) (before : List Document) (at : ℕ) : Type 0 where
  pub short : AreShort before
  pub place : length (joined before) ≡ at
  pub parts : joined before ++ drop at file ≡ file

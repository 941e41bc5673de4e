-- How far a reader of owned documents has come.
use Rattle.std.specs.Prelude.{ℕ, Option}
use Rattle.orphan_filter.specs.Reading.{Reading}

-- the shard's place, how many documents were given, and the reader of its file once that was found
pub record OwnedReading : Type 0 where
  pub shard : ℕ
  pub given : ℕ
  pub reading : Option Reading

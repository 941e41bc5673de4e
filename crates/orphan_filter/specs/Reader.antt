-- What a reader of records is.
use Rattle.std.specs.Prelude.{◌≡◌, ℕ, List, drop}
use Rattle.orphan_filter.specs.declared.record_reader.RecordReader.{RecordReader}
use Rattle.orphan_filter.specs.Reading.{Reading}

-- what was read of the bytes at its place
abbrev pub window_of : RecordReader → List ℕ
window_of r = drop r.used r.ahead.items

abbrev pub reading_of : RecordReader → Reading
reading_of r = record { id = r.id; len = r.len; place = r.place; given = r.given; ahead = window_of r }

-- at most what was read ahead changed
pub record KeepsPlace (old new : RecordReader) : Type 0 where
  pub id : new.id ≡ old.id
  pub len : new.len ≡ old.len
  pub place : new.place ≡ old.place
  pub given : new.given ≡ old.given

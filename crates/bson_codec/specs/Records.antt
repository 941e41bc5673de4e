-- The records of a file, which are BSON documents one after another as mongodump writes them, and a file that is one document.
use Rattle.std.specs.Prelude.{◌≡◌, ℕ, zero, suc, ◌+◌, ◌-◌, ◌<◌, List, [], ◌∷◌, ◌++◌, length, drop, Result, Ok, Err, nat_lt, if◌then◌else◌}
use Rattle.bson_value.specs.Tree.{Tree}
use Rattle.bson_value.specs.Proper.{IsDoc}
use Rattle.bson_value.specs.declared.bad.BadBson.{BadBson}
use Rattle.bson_codec.specs.Spelling.{spelling, IsShort, IsSpelledAt}
use Rattle.bson_codec.specs.Reading.{read_at}

abbrev pub Document : Type 0
Document = List (List ℕ × Tree)

-- ---- records

-- a bad record: its number, counted from 1, where it begins, and its leftmost fault, whose place is counted from the file's begin
pub record BadRecord : Type 0 where
  pub number : ℕ
  pub start : ℕ
  pub fault : BadBson

abbrev pub after_one : Document → Result (List Document) BadRecord → Result (List Document) BadRecord
after_one d (Ok ds) = Ok (d ∷ ds)
after_one d (Err b) = Err b

-- the record of that number and start, and then those behind it
abbrev pub record_then : ℕ → ℕ → ℕ → Result (Document × List ℕ) BadBson → (ℕ → Result (List Document) BadRecord) → Result (List Document) BadRecord
record_then number start total (Ok r) next = after_one r.0 (next (total - length r.1))
record_then number start total (Err b) next = Err (record { number = number; start = start; fault = b })

-- the records from a start up to the end, at most so many
unfoldable pub records_from : ℕ → ℕ → ℕ → List ℕ → Result (List Document) BadRecord
records_from zero number start bytes = Ok []
records_from (suc n) number start bytes =
    if nat_lt start (length bytes)
    then record_then number start (length bytes) (read_at start bytes) (λ end. records_from n (suc number) end bytes)
    else Ok []

-- the documents of a file, or its first bad record. A record takes a byte at least
unfoldable pub records : List ℕ → Result (List Document) BadRecord
records bytes = records_from (length bytes) 1 0 bytes

-- ---- the same, said of spellings

abbrev pub joined : List Document → List ℕ
joined [] = []
joined (d ∷ ds) = spelling d ++ joined ds

-- each may be written and read
abbrev pub AreShort : List Document → Type 0
AreShort [] = Unit {0}
AreShort (d ∷ ds) = IsDoc d × IsShort d × AreShort ds

-- the bytes are the spellings of these documents, joined
pub record AreRecords (bytes : List ℕ) (ds : List Document) : Type 0 where
  pub short : AreShort ds
  pub parts : joined ds ≡ bytes

-- the bytes are the spellings of documents, joined, and then a rest of which no front is a spelling
pub record IsFirstBad (bytes : List ℕ) (b : BadRecord) : Type 0 where
  pub before : List Document
  pub short : AreShort before
  pub number : length before + 1 ≡ b.number
  pub start : length (joined before) ≡ b.start
  pub parts : joined before ++ drop b.start bytes ≡ bytes
  pub more : b.start < length bytes
  pub none : (d : Document) (end : ℕ) → ¬ IsSpelledAt bytes b.start d end
  pub fault : read_at b.start bytes ≡ Err b.fault

-- ---- a file that is one document

-- why a file is no document: its bytes are none from the first on, or something stands behind the document
pub data FileFault : Type 0 where
  bytes_fault : BadBson → FileFault
  trailing : ℕ → FileFault

abbrev pub alone : ℕ → Document → List ℕ → Result Document FileFault
alone total d [] = Ok d
alone total d (b ∷ bs) = Err (trailing (total - length (b ∷ bs)))

abbrev pub only_one : ℕ → Result (Document × List ℕ) BadBson → Result Document FileFault
only_one total (Ok r) = alone total r.0 r.1
only_one total (Err b) = Err (bytes_fault b)

-- the document that a file is. Trailing bytes are told by the place behind the document
unfoldable pub document_of : List ℕ → Result Document FileFault
document_of bytes = only_one (length bytes) (read_at 0 bytes)

-- the bytes are the spelling of this document
pub record IsSpelling (bytes : List ℕ) (d : Document) : Type 0 where
  pub proper : IsDoc d
  pub short : IsShort d
  pub parts : spelling d ≡ bytes

-- a document is spelled at the front, and bytes stand behind it
pub record IsTrailed (bytes : List ℕ) (end : ℕ) : Type 0 where
  pub document : Document
  pub spelled : IsSpelledAt bytes 0 document end
  pub more : end < length bytes

abbrev pub IsFileFault : List ℕ → FileFault → Type 0
IsFileFault bytes (bytes_fault b) = ((d : Document) (end : ℕ) → ¬ IsSpelledAt bytes 0 d end) × (read_at 0 bytes ≡ Err b)
IsFileFault bytes (trailing end) = IsTrailed bytes end

-- What is wrong with the files of a collection.
use Rattle.std.specs.Prelude.{◌≡◌, ℕ, zero, suc, ◌+◌, ◌-◌, ◌^◌, ◌<◌, List, [], ◌∷◌, length, Option, Some, None, Result, Ok, Err, nat_lt, if◌then◌else◌}
use Rattle.bson_codec.specs.Records.{Document, BadRecord, records}
use Rattle.chunk_map.specs.Table.{ShardRow, CollectionRow}
use Rattle.bson_codec.specs.Reading.{read_at}
use Rattle.bson_codec.specs.Spelling.{spelling}
use Rattle.bson_value.specs.declared.bad.BadBson.{BadBson}
use Rattle.bson_value.specs.Tree.{Tree}
use Rattle.bson_value.specs.Paths.{Steps}
use Rattle.chunk_map.specs.Keys.{key_of}
use Rattle.chunk_map.specs.Owned.{Files}
use Rattle.mq_ports.specs.World.{Held, file_of}
use Rattle.orphan_filter.specs.declared.errors.SurveyError.{SurveyError}
use Rattle.orphan_filter.specs.declared.errors.SurveyError.TheVariants as S
use Rattle.orphan_filter.specs.declared.errors.FileError.{FileError}
use Rattle.orphan_filter.specs.declared.errors.FileError.TheVariants as F
use Rattle.orphan_filter.specs.declared.errors.BadShard.{BadShard}
use Rattle.orphan_filter.specs.declared.errors.ShardWhy.{ShardWhy}
use Rattle.orphan_filter.specs.declared.errors.ShardWhy.TheVariants as W

abbrev pub Verdict : Type 0
Verdict = Result (Unit {0}) SurveyError

-- the files that an object tells, by name
abbrev pub files_in : Held → Files
files_in held name = file_of name held

-- a record whose key meets an array: its number, counted from 1, where it begins, and the part of the key
pub record ArrayRecord : Type 0 where
  pub number : ℕ
  pub start : ℕ
  pub part : ℕ

abbrev pub unless_array : ℕ → ℕ → Result (List Tree) ℕ → Option ArrayRecord → Option ArrayRecord
unless_array number start (Ok key) later = later
unless_array number start (Err part) later = Some (record { number = number; start = start; part = part })

-- the first of these records whose key meets an array, where the first has this number and begins there
abbrev pub array_from : List Steps → ℕ → ℕ → List Document → Option ArrayRecord
array_from paths number start [] = None
array_from paths number start (d ∷ ds) = unless_array number start (key_of paths d) (array_from paths (suc number) (start + length (spelling d)) ds)

abbrev pub first_array : List Steps → List Document → Option ArrayRecord
first_array paths ds = array_from paths 1 0 ds

abbrev pub record_before : ℕ → Result (Document × List ℕ) BadBson → (ℕ → List Document) → List Document
record_before total (Ok r) next = r.0 ∷ next (total - length r.1)
record_before total (Err b) next = []

-- the records from a start up to the first bad one, at most so many
abbrev pub whole_from : ℕ → ℕ → List ℕ → List Document
whole_from zero start bytes = []
whole_from (suc n) start bytes = if nat_lt start (length bytes) then record_before (length bytes) (read_at start bytes) (λ end. whole_from n end bytes) else []

-- the records of a file before the first bad one, all of them where none is bad
unfoldable pub whole_records : List ℕ → List Document
whole_records bytes = whole_from (length bytes) 0 bytes

abbrev pub bad_shard : CollectionRow → ShardRow → ℕ → ℕ → ShardWhy → BadShard
bad_shard c s number at why = record { collection = c.name; shard = s.name; number = number; at = at; why = why }

abbrev pub unless_bad : CollectionRow → ShardRow → Option ArrayRecord → Verdict → Verdict
unless_bad c s None later = later
unless_bad c s (Some a) later = Err (S.Bad (bad_shard c s a.number a.start (W.ArrayInKey a.part)))

-- every record decodes, or the first that doesn't
abbrev pub records_verdict : CollectionRow → ShardRow → Result (List Document) BadRecord → Verdict
records_verdict c s (Ok ds) = Ok tt
records_verdict c s (Err b) = Err (S.Bad (bad_shard c s b.number b.fault.at (W.Bson b.fault.why)))

-- absent, too long, or the first record that doesn't decode or meets an array at the key
abbrev pub file_verdict : CollectionRow → ShardRow → Option (List ℕ) → Verdict
file_verdict c s None = Err (S.NoFile s.file)
file_verdict c s (Some bytes) =
    if nat_lt (2 ^ 32 - 1) (length bytes) then Err (S.FileTooLong s.file (length bytes)) else unless_bad c s (first_array c.key_paths (whole_records bytes)) (records_verdict c s (records bytes))

abbrev pub verdict_then : Verdict → Verdict → Verdict
verdict_then (Ok x) later = later
verdict_then (Err e) later = Err e

-- the first refusal by shard
abbrev pub shards_verdict : Files → CollectionRow → List ShardRow → Verdict
shards_verdict files c [] = Ok tt
shards_verdict files c (s ∷ ss) = verdict_then (file_verdict c s (files s.file)) (shards_verdict files c ss)

-- nothing is wrong with the files of the collection, or the first refusal
unfoldable pub surveyed : Files → CollectionRow → Verdict
surveyed files c = shards_verdict files c c.shards

-- a refusal is that of the told files, and nothing that was told is damaged
abbrev pub Tells : SurveyError → Verdict → Type 0
Tells (S.Bad b) v = v ≡ Err (S.Bad b)
Tells (S.NoFile name) v = v ≡ Err (S.NoFile name)
Tells (S.FileTooLong name len) v = v ≡ Err (S.FileTooLong name len)
Tells S.ReadFault v = Unit {0}
Tells S.Damage v = ⊥
Tells S.Memory v = Unit {0}

abbrev pub IsVerdict : {A : Type 0} → Result A SurveyError → Verdict → Type 0
IsVerdict (Ok x) v = v ≡ Ok tt
IsVerdict (Err e) v = Tells e v

-- a file that a survey finds good
abbrev pub IsGoodFile : Option (List ℕ) → Type 0
IsGoodFile None = ⊥
IsGoodFile (Some bytes) = (length bytes < 2 ^ 32) × ((ds : List Document) × (records bytes ≡ Ok ds))

-- what reading a file came to is what its records are
abbrev pub IsFileVerdict : List Steps → Result (Unit {0}) FileError → List ℕ → Type 0
IsFileVerdict paths (Ok x) bytes = (ds : List Document) × (records bytes ≡ Ok ds) × (first_array paths (whole_records bytes) ≡ None)
IsFileVerdict paths (Err (F.Bad number b)) bytes = (start : ℕ) × (records bytes ≡ Err (record { number = number; start = start; fault = b })) × (first_array paths (whole_records bytes) ≡ None)
IsFileVerdict paths (Err (F.Array number at part)) bytes = first_array paths (whole_records bytes) ≡ Some (record { number = number; start = at; part = part })
IsFileVerdict paths (Err F.Failed) bytes = Unit {0}
IsFileVerdict paths (Err F.Damage) bytes = ⊥
IsFileVerdict paths (Err F.Memory) bytes = Unit {0}

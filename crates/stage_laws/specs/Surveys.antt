-- What a survey of a collection's files finds, said of documents, their spellings and their keys (BSON 1.1; the manual,
-- Shard Keys).
use Rattle.std.specs.Prelude.{◌≡◌, ℕ, suc, ◌-◌, ◌^◌, ◌<◌, ◌≤◌, true, false, List, ◌∷◌, ◌++◌, length, Option, Some, None, IfSome, IsSomeAnd}
use Rattle.std.specs.List.{All}
use Rattle.bson_value.specs.Paths.{Steps}
use Rattle.bson_value.specs.Proper.{AreBytes}
use Rattle.bson_value.specs.Tree.{doc, pairs_of}
use Rattle.bson_value.specs.declared.bad.BadWhy.{BadWhy}
use Rattle.bson_codec.specs.Begun.{IsReadTo}
use Rattle.bson_codec.specs.Records.{Document, BadRecord, joined, AreRecords, IsFirstBad}
use Rattle.bson_codec.specs.Spelling.{IsSpelledAt}
use Rattle.chunk_map.specs.Keys.{meets_array}
use Rattle.chunk_map.specs.Owned.{Files}
use Rattle.chunk_map.specs.Table.{ShardRow, CollectionRow}
use Rattle.orphan_filter.specs.Survey.{ArrayRecord}
use Rattle.orphan_filter.specs.declared.errors.SurveyError.{SurveyError}
use Rattle.orphan_filter.specs.declared.errors.SurveyError.TheVariants as S
use Rattle.orphan_filter.specs.declared.errors.ShardWhy.{ShardWhy}
use Rattle.orphan_filter.specs.declared.errors.ShardWhy.TheVariants as W

-- ---- keys

-- none of the key's paths meets an array in the document
abbrev pub MeetsNone : List Steps → Document → Type 0
MeetsNone paths d = All (λ path. meets_array path (doc (pairs_of d)) ≡ false) paths

-- the path of this part of the key, counted from 1, is the first that meets an array in the document
pub record MeetsIn (paths : List Steps) (d : Document) (part : ℕ) : Type 0 where
  pub front : List Steps
  pub path : Steps
  pub back : List Steps
  pub split : front ++ path ∷ back ≡ paths
  pub counted : suc (length front) ≡ part
  pub meets : meets_array path (doc (pairs_of d)) ≡ true
  pub before : MeetsNone front d

-- ---- records

-- the documents are spelled one after another from the file's begin on, up to an end at which none is spelled
pub record AreWholeRecords (bytes : List ℕ) (ds : List Document) : Type 0 where
  pub end : ℕ
  pub read : IsReadTo bytes ds end
  pub none : (d : Document) (next : ℕ) → ¬ IsSpelledAt bytes end d next

-- the key of one of the documents meets an array, in this part, and none's before it does; its number is one more than
-- there are documents before it, and it starts behind their spellings
pub record IsFirstArray (paths : List Steps) (ds : List Document) (a : ArrayRecord) : Type 0 where
  pub before : List Document
  pub document : Document
  pub back : List Document
  pub split : before ++ document ∷ back ≡ ds
  pub keys : All (MeetsNone paths) before
  pub array : MeetsIn paths document a.part
  pub counted : suc (length before) ≡ a.number
  pub place : length (joined before) ≡ a.start

-- ---- files

-- the bytes begin with the spellings of documents of which none's key meets an array, joined, and then with that of one
-- whose key meets one in this part
pub record BeginWithArray (paths : List Steps) (bytes : List ℕ) (number at part : ℕ) : Type 0 where
  pub before : List Document
  pub document : Document
  pub end : ℕ
  pub read : IsReadTo bytes before at
  pub spelled : IsSpelledAt bytes at document end
  pub keys : All (MeetsNone paths) before
  pub array : MeetsIn paths document part
  pub counted : suc (length before) ≡ number

-- the first record that isn't a document has this number and fault, and the key of none before it meets an array
pub record BeginWithBad (paths : List Steps) (bytes : List ℕ) (number at : ℕ) (why : BadWhy) : Type 0 where
  pub bad : BadRecord
  pub first : IsFirstBad bytes bad
  pub keys : All (MeetsNone paths) first.before
  pub counted : bad.number ≡ number
  pub fault : bad.fault ≡ record { at = at; why = why }

-- the bytes begin with good records and then with one that is bad so: its number, the place where it is bad, and why
abbrev pub BeginWith : List Steps → List ℕ → ℕ → ℕ → ShardWhy → Type 0
BeginWith paths bytes number at (W.Bson why) = BeginWithBad paths bytes number at why
BeginWith paths bytes number at (W.ArrayInKey part) = BeginWithArray paths bytes number at part

-- a file is held, of at most 4,294,967,295 bytes; they are the spellings of documents, joined, and none's key meets an
-- array
pub record IsGood (paths : List Steps) (held : Option (List ℕ)) : Type 0 where
  pub bytes : List ℕ
  pub is : held ≡ Some bytes
  pub size : length bytes ≤ 2 ^ 32 - 1
  pub documents : List Document
  pub records : AreRecords bytes documents
  pub keys : All (MeetsNone paths) documents

-- what is wrong with a shard's file: it isn't held; it is held and longer; or it is held, no longer, and has a bad record
abbrev pub IsRefused : CollectionRow → ShardRow → Option (List ℕ) → SurveyError → Type 0
IsRefused c s held (S.NoFile name) = (held ≡ None) × (s.file ≡ name)
IsRefused c s held (S.FileTooLong name len) = IsSomeAnd held (λ bytes. (2 ^ 32 - 1 < length bytes) × (s.file ≡ name) × (length bytes ≡ len))
IsRefused c s held (S.Bad b) = IsSomeAnd held (λ bytes. (length bytes ≤ 2 ^ 32 - 1) × (c.name ≡ b.collection) × (s.name ≡ b.shard) × BeginWith c.key_paths bytes b.number b.at b.why)
IsRefused c s held S.ReadFault = ⊥
IsRefused c s held S.Damage = ⊥
IsRefused c s held S.Memory = ⊥

-- ---- collections

-- each file is of bytes
abbrev pub AreFiles : Files → Type 0
AreFiles files = (name : List ℕ) → IfSome (files name) AreBytes

-- the files of the first shards are good, and that of the next is refused so
pub record IsFirstRefused (files : Files) (c : CollectionRow) (e : SurveyError) : Type 0 where
  pub front : List ShardRow
  pub shard : ShardRow
  pub back : List ShardRow
  pub split : front ++ shard ∷ back ≡ c.shards
  pub good : All (λ s. IsGood c.key_paths (files s.file)) front
  pub refused : IsRefused c shard (files shard.file) e

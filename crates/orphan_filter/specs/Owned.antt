-- What a reader of owned documents has given.
use Rattle.std.specs.Prelude.{◌≡◌, ℕ, ◌+◌, Bool, true, false, List, Option, Some, None, Result, Ok, Err, slice_get, length, filter}
use Rattle.bson_codec.specs.Records.{Document}
use Rattle.chunk_map.specs.Owned.{owns, part}
use Rattle.chunk_map.specs.Table.{ShardRow, CollectionRow}
use Rattle.mq_ports.specs.World.{Held, contents_at, id_of}
use Rattle.mq_ports.specs.declared.errors.OpError.{OpError}
use Rattle.mq_ports.specs.declared.errors.OpError.TheVariants as O
use Rattle.orphan_filter.specs.Reading.{Reading, Follows}
use Rattle.orphan_filter.specs.OwnedReading.{OwnedReading}
use Rattle.orphan_filter.specs.Survey.{files_in}

-- a reader that has given nothing
abbrev pub reader_of : ℕ → OwnedReading
reader_of shard = record { shard = shard; given = 0; reading = None }

-- how many records were read
abbrev pub given_to : Option Reading → ℕ
given_to None = 0
given_to (Some r) = r.given

-- how many documents an answer gives
abbrev pub given_in : Result (Option Document) OpError → ℕ
given_in (Ok (Some d)) = 1
given_in (Ok None) = 0
given_in (Err e) = 0

-- how many documents it has given
abbrev pub given_by : OwnedReading → ℕ
given_by r = r.given

-- it has read records of the file, and has given those of them that the shard owns
pub record HasGiven (c : CollectionRow) (shard given : ℕ) (r : Reading) (file : List ℕ) : Type 0 where
  pub follows : Follows r file
  pub owned : length (filter (owns c shard) follows.before) ≡ given

-- it reads the shard's file, and has given no record
abbrev pub OpensShard : Reading → ShardRow → Held → Type 0
OpensShard r s held = (id_of s.file held ≡ Some r.id) × Follows r (contents_at r.id held)

abbrev pub FollowsShard : CollectionRow → ℕ → ℕ → Reading → Option ShardRow → Held → Type 0
FollowsShard c shard given r None held = ⊥
FollowsShard c shard given r (Some s) held = (id_of s.file held ≡ Some r.id) × HasGiven c shard given r (contents_at r.id held)

abbrev pub IsOver : CollectionRow → ℕ → ℕ → Option Reading → Held → Type 0
IsOver c shard given None held = given ≡ 0
IsOver c shard given (Some r) held = FollowsShard c shard given r (slice_get c.shards shard) held

-- all that it gave so far is of this collection and these files
abbrev pub GoesOver : OwnedReading → CollectionRow → Held → Type 0
GoesOver r c held = IsOver c r.shard r.given r.reading held

-- a record that was read next: one that the shard owns is the next of its part
abbrev pub IsOwned : CollectionRow → ℕ → ℕ → Document → Reading → Held → Bool → Type 0
IsOwned c shard given d r held true = (slice_get (part (files_in held) c shard) given ≡ Some d) × FollowsShard c shard (given + 1) r (slice_get c.shards shard) held
IsOwned c shard given d r held false = FollowsShard c shard given r (slice_get c.shards shard) held

-- the record that was read next, or that the file has ended
abbrev pub IsNextOwned : CollectionRow → ℕ → ℕ → Option Document → Reading → Held → Type 0
IsNextOwned c shard given None r held = (slice_get (part (files_in held) c shard) given ≡ None) × FollowsShard c shard given r (slice_get c.shards shard) held
IsNextOwned c shard given (Some d) r held = IsOwned c shard given d r held (owns c shard d)

-- the errors of a call that reads files and evaluates nothing
abbrev pub IsReadError : OpError → Type 0
IsReadError (O.Code c) = ⊥
IsReadError O.ReadFault = Unit {0}
IsReadError O.SpillFault = ⊥
IsReadError O.Damage = Unit {0}
IsReadError O.Memory = Unit {0}

-- What may happen to a core, one event after another. Each step is one event.
use Rattle.std.specs.Prelude.{◌≡◌, ℕ, Bool, true, false, List, [], ◌∷◌, length, Option, Some, None, slice_get, slice_set, replicate}
use Rattle.std.specs.List.{AllWithin}
use Rattle.merge_cursor.specs.declared.item.Keyed.{Keyed}
use Rattle.merge_cursor.specs.declared.shards.Shard.{Shard}
use Rattle.bson_value.specs.declared.errors.Failure.{Failure}
use Rattle.merge_cursor.specs.declared.shards.Progress.{Progress}
use Rattle.merge_cursor.specs.declared.shards.Progress.TheVariants.{Fresh, Asked, Answered, Over}
use Rattle.merge_cursor.specs.Shards.{is_idle, HasBegun, IsFirstUp, IsLeastFront}
use Rattle.merge_cursor.specs.Core.{Core, lesser}

-- a shard is asked, answers with a batch or is over; an item is taken
pub data Event : Type 0 where
  asks : ℕ → Event
  arrives : ℕ → List Keyed → Event
  ends : ℕ → Option Failure → Event
  takes : Keyed → Event

-- the core, with the i-th shard so
abbrev pub with_shard : Core → ℕ → List Keyed → Progress → Core
with_shard c i waiting progress = record { by_key = c.by_key; shards = slice_set c.shards i (record { waiting = waiting; progress = progress }); least = c.least }

-- the least shard that is idle is asked
pub record Asks (old : Core) (i : ℕ) (new : Core) : Type 0 where
  pub shard : Shard
  pub at : slice_get old.shards i ≡ Some shard
  pub idle : is_idle shard ≡ true
  pub first : AllWithin (λ s. is_idle s ≡ false) old.shards 0 i
  pub then : new ≡ with_shard old i shard.waiting Asked

-- a shard that was asked, and of which nothing waits, brings a batch
pub record Arrives (old : Core) (i : ℕ) (batch : List Keyed) (new : Core) : Type 0 where
  pub shard : Shard
  pub at : slice_get old.shards i ≡ Some shard
  pub asked : shard.progress ≡ Asked
  pub empty : shard.waiting ≡ []
  pub then : new ≡ with_shard old i batch Answered

-- a shard that was asked once gives nothing more; the least failure is kept
pub record Ends (old : Core) (i : ℕ) (failure : Option Failure) (new : Core) : Type 0 where
  pub shard : Shard
  pub at : slice_get old.shards i ≡ Some shard
  pub begun : HasBegun shard
  pub then : new ≡ record { by_key = old.by_key; shards = slice_set old.shards i (record { waiting = shard.waiting; progress = Over }); least = lesser old.least failure }

-- x is taken from the front of the shard that it is the turn of
pub record Takes (old : Core) (x : Keyed) (new : Core) : Type 0 where
  pub i : ℕ
  pub shard : Shard
  pub rest : List Keyed
  pub at : slice_get old.shards i ≡ Some shard
  pub front : shard.waiting ≡ x ∷ rest
  pub in_order : old.by_key ≡ false → IsFirstUp old.shards i
  pub in_keys : old.by_key ≡ true → IsLeastFront x old.shards i (length old.shards)
  pub then : new ≡ with_shard old i rest shard.progress

abbrev pub Step : Core → Event → Core → Type 0
Step old (asks i) new = Asks old i new
Step old (arrives i batch) new = Arrives old i batch new
Step old (ends i failure) new = Ends old i failure new
Step old (takes x) new = Takes old x new

-- the events may happen, one after another
abbrev pub Run : Core → List Event → Core → Type 0
Run old [] new = new ≡ old
Run old (e ∷ es) new = (mid : Core) × Step old e mid × Run mid es new

abbrev pub start : Bool → ℕ → Core
start by_key n = record { by_key = by_key; shards = replicate n (record { waiting = []; progress = Fresh }); least = None }

-- the events are a schedule that leads to this core
abbrev pub StandsFor : Core → List Event → Type 0
StandsFor core events = Run (start core.by_key (length core.shards)) events core

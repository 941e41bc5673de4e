-- What a core knows of its shards, and which item comes next.
use Rattle.std.specs.Prelude.{◌≡◌, ◌⊎◌, ℕ, ◌+◌, ◌<◌, Bool, true, false, List, [], ◌∷◌, length, not, ◌&&◌, Option, Some, None, slice_get, slice_set}
use Rattle.std.specs.List.{AllWithin}
use Rattle.merge_cursor.specs.declared.item.Keyed.{Keyed}
use Rattle.merge_cursor.specs.declared.shards.Shard.{Shard}
use Rattle.merge_cursor.specs.declared.shards.Progress.{Progress}
use Rattle.merge_cursor.specs.declared.shards.Progress.TheVariants.{Fresh, Asked, Answered, Over}
use Rattle.merge_cursor.specs.Whole.{key_before}

-- the list begins with x
abbrev pub StartsWith : {X : Type 0} → X → List X → Type 0
StartsWith {X} x xs = (rest : List X) × (xs ≡ x ∷ rest)

abbrev pub is_over : Progress → Bool
is_over Fresh = false
is_over Asked = false
is_over Answered = false
is_over Over = true

-- it has no ask to answer, and may give more
abbrev pub is_unasked : Progress → Bool
is_unasked Fresh = true
is_unasked Asked = false
is_unasked Answered = true
is_unasked Over = false

abbrev pub is_empty : {X : Type 0} → List X → Bool
is_empty [] = true
is_empty (x ∷ xs) = false

-- it gives nothing more, and nothing of it waits
abbrev pub is_used_up : Shard → Bool
is_used_up s = is_over s.progress && is_empty s.waiting

-- it may give more, and nothing of it waits
abbrev pub is_lacking : Shard → Bool
is_lacking s = not (is_over s.progress) && is_empty s.waiting

-- it may give more, has no ask to answer, and nothing of it waits
abbrev pub is_idle : Shard → Bool
is_idle s = is_unasked s.progress && is_empty s.waiting

-- what waits is after x; with nothing waiting the shard is over
abbrev pub Follows : {X : Type 0} → (X → X → Bool) → X → List X → Progress → Type 0
Follows before x [] p = is_over p ≡ true
Follows before x (y ∷ ys) p = before x y ≡ true

-- what waits is not before x; with nothing waiting the shard is over
abbrev pub NotBefore : {X : Type 0} → (X → X → Bool) → X → List X → Progress → Type 0
NotBefore before x [] p = is_over p ≡ true
NotBefore before x (y ∷ ys) p = before y x ≡ false

-- each shard before the i-th is used up
abbrev pub IsFirstUp : List Shard → ℕ → Type 0
IsFirstUp shards i = AllWithin (λ s. is_used_up s ≡ true) shards 0 i

-- up to the end, x, of the i-th shard, has the least key of all fronts, and that shard is the first to have it; each shard without a front is over
pub record IsLeastFront (x : Keyed) (shards : List Shard) (i : ℕ) (end : ℕ) : Type 0 where
  pub earlier : AllWithin (λ s. Follows key_before x s.waiting s.progress) shards 0 i
  pub later : AllWithin (λ s. NotBefore key_before x s.waiting s.progress) shards (i + 1) end

-- the first idle shard is the i-th
pub record IsFirstIdle (shards : List Shard) (i : ℕ) : Type 0 where
  pub shard : Shard
  pub at : slice_get shards i ≡ Some shard
  pub idle : is_idle shard ≡ true
  pub first : AllWithin (λ s. is_idle s ≡ false) shards 0 i

-- a shard that the choice needs may give more, and has nothing waiting
pub record Lacks (by_key : Bool) (shards : List Shard) : Type 0 where
  pub i : ℕ
  pub shard : Shard
  pub at : slice_get shards i ≡ Some shard
  pub lacking : is_lacking shard ≡ true
  pub first : by_key ≡ false → IsFirstUp shards i

-- the i-th shard's front is x, and rest follows it
pub record HasFront (shards : List Shard) (i : ℕ) (x : Keyed) : Type 0 where
  pub shard : Shard
  pub at : slice_get shards i ≡ Some shard
  pub rest : List Keyed
  pub front : shard.waiting ≡ x ∷ rest

-- the front is x, which is taken
pub record TakesFront (old : List Shard) (i : ℕ) (x : Keyed) (new : List Shard) : Type 0 where
  pub shard : Shard
  pub at : slice_get old i ≡ Some shard
  pub rest : List Keyed
  pub front : shard.waiting ≡ x ∷ rest
  pub then : new ≡ slice_set old i (record { waiting = rest; progress = shard.progress })

-- up to the end, the least front of all; there is none where all are used up
abbrev pub IsBestSoFar : List Shard → Option ℕ → ℕ → Type 0
IsBestSoFar shards None end = AllWithin (λ s. is_used_up s ≡ true) shards 0 end
IsBestSoFar shards (Some i) end = (x : Keyed) × HasFront shards i x × IsLeastFront x shards i end × (i < end)

-- the i-th shard comes further, and what waits stays
pub record Becomes (old : List Shard) (i : ℕ) (progress : Progress) (new : List Shard) : Type 0 where
  pub shard : Shard
  pub at : slice_get old i ≡ Some shard
  pub then : new ≡ slice_set old i (record { waiting = shard.waiting; progress = progress })

abbrev pub NoneIdle : List Shard → Type 0
NoneIdle shards = AllWithin (λ s. is_idle s ≡ false) shards 0 (length shards)

abbrev pub AllUsedUp : List Shard → Type 0
AllUsedUp shards = AllWithin (λ s. is_used_up s ≡ true) shards 0 (length shards)

-- it has an ask to answer, and nothing of it waits
abbrev pub CanAnswer : Shard → Type 0
CanAnswer s = (s.progress ≡ Asked) × (s.waiting ≡ [])

-- it was asked at least once, and has not ended
abbrev pub HasBegun : Shard → Type 0
HasBegun s = (s.progress ≡ Asked) ⊎ (s.progress ≡ Answered)

-- the i-th shard may bring a batch
pub record CanArrive (shards : List Shard) (i : ℕ) : Type 0 where
  pub shard : Shard
  pub at : slice_get shards i ≡ Some shard
  pub answering : CanAnswer shard

-- the i-th shard may end
pub record CanEnd (shards : List Shard) (i : ℕ) : Type 0 where
  pub shard : Shard
  pub at : slice_get shards i ≡ Some shard
  pub begun : HasBegun shard

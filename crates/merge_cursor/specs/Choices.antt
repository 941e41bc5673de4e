-- The choice by key.
use Rattle.std.specs.Prelude.{◌≡◌, ℕ, List, length, Some, true, slice_get}
use Rattle.std.specs.List.{AllWithin}
use Rattle.merge_cursor.specs.declared.choice.Choice.{Choice}
use Rattle.merge_cursor.specs.declared.choice.Choice.TheVariants.{Front, Lacking, Empty}
use Rattle.merge_cursor.specs.declared.shards.Shard.{Shard}
use Rattle.merge_cursor.specs.declared.item.Keyed.{Keyed}
use Rattle.merge_cursor.specs.Shards.{is_used_up, is_lacking, IsLeastFront, HasFront}

-- by key: the least front, or why there is none
abbrev pub IsChoice : List Shard → Choice → Type 0
IsChoice shards (Front i) = (x : Keyed) × HasFront shards i x × IsLeastFront x shards i (length shards)
IsChoice shards Lacking = (i : ℕ) × (s : Shard) × (slice_get shards i ≡ Some s) × (is_lacking s ≡ true)
IsChoice shards Empty = AllWithin (λ s. is_used_up s ≡ true) shards 0 (length shards)

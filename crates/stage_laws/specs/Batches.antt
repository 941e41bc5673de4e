-- What comes of each shard of a merge.
use Rattle.std.specs.Prelude.{ℕ, List, [], ◌==◌, if◌then◌else◌}
use Rattle.merge_cursor.specs.declared.item.Keyed.{Keyed}
use Rattle.merge_cursor.specs.Schedule.{Event, asks, arrives, ends, takes}

-- what an event brings of the i-th shard: a batch that arrives of it, and else nothing
abbrev pub brings : ℕ → Event → List Keyed
brings i (asks j) = []
brings i (arrives j batch) = if i == j then batch else []
brings i (ends j failure) = []
brings i (takes x) = []

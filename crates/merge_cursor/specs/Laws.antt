-- What holds of every schedule.
use Rattle.std.specs.Prelude.{◌≡◌, ℕ, suc, zero, ◌++◌, Bool, true, false, List, [], ◌∷◌, length, Option, Some, None, replicate}
use Rattle.std.specs.List.{All, Contains}
use Rattle.std.specs.List.Sorted.{IsSortedBy}
use Rattle.bson_value.specs.declared.errors.Failure.{Failure}
use Rattle.merge_cursor.specs.declared.item.Keyed.{Keyed}
use Rattle.merge_cursor.specs.Whole.{key_before, whole}
use Rattle.merge_cursor.specs.Shards.{AllUsedUp}
use Rattle.merge_cursor.specs.Core.{Core, failure_before}
use Rattle.merge_cursor.specs.Schedule.{Event, asks, arrives, ends, takes, Run, start, StandsFor}

-- what was taken
abbrev pub taken : List Event → List Keyed
taken [] = []
taken (asks i ∷ es) = taken es
taken (arrives i batch ∷ es) = taken es
taken (ends i failure ∷ es) = taken es
taken (takes x ∷ es) = x ∷ taken es

-- the i-th list, with the batch at its end
abbrev pub add_to : {X : Type 0} → List (List X) → ℕ → List X → List (List X)
add_to [] i batch = []
add_to (l ∷ ls) zero batch = (l ++ batch) ∷ ls
add_to (l ∷ ls) (suc i) batch = l ∷ add_to ls i batch

-- the shards' lists, after what came before
abbrev pub given : List Event → List (List Keyed) → List (List Keyed)
given [] ls = ls
given (asks i ∷ es) ls = given es ls
given (arrives i batch ∷ es) ls = given es (add_to ls i batch)
given (ends i failure ∷ es) ls = given es ls
given (takes x ∷ es) ls = given es ls

-- the lists that so many shards gave
abbrev pub lists : ℕ → List Event → List (List Keyed)
lists n events = given events (replicate n [])

-- by key, the keys of each shard's list don't fall
abbrev pub Rise : Bool → List (List Keyed) → Type 0
Rise by_key ls = by_key ≡ true → All (IsSortedBy key_before) ls

abbrev pub IsPrefixOf : {X : Type 0} → List X → List X → Type 0
IsPrefixOf {X} xs ys = (rest : List X) × (xs ++ rest ≡ ys)

-- whatever happens, what was taken so far is the beginning of the whole of the lists that the shards end with
abbrev pub TakesPrefix : Type 0
TakesPrefix = (by_key : Bool) (n : ℕ) (events later : List Event) (core : Core) → Run (start by_key n) (events ++ later) core → Rise by_key (lists n (events ++ later)) → IsPrefixOf (taken events) (whole by_key (lists n (events ++ later)))

-- and all of it where each shard is used up
abbrev pub TakesAll : Type 0
TakesAll = (by_key : Bool) (n : ℕ) (events : List Event) (core : Core) → Run (start by_key n) events core → Rise by_key (lists n events) → AllUsedUp core.shards → taken events ≡ whole by_key (lists n events)

-- whatever schedule leads to old, with these events more it leads to new
abbrev pub Carries : Core → List Event → Core → Type 0
Carries old more new = (events : List Event) → StandsFor old events → StandsFor new (events ++ more)

-- the lists that the shards of this core gave
abbrev pub lists_of : Core → List Event → List (List Keyed)
lists_of c events = lists (length c.shards) events

-- by whatever schedule, and whatever comes later, what was taken is the beginning of the whole
abbrev pub HasTakenPrefix : Core → Type 0
HasTakenPrefix c = (events later : List Event) (last : Core) → StandsFor c events → Run c later last → Rise c.by_key (lists_of c (events ++ later)) → IsPrefixOf (taken events) (whole c.by_key (lists_of c (events ++ later)))

-- by whatever schedule, what was taken is the whole
abbrev pub HasTakenAll : Core → Type 0
HasTakenAll c = (events : List Event) → StandsFor c events → Rise c.by_key (lists_of c events) → taken events ≡ whole c.by_key (lists_of c events)

abbrev pub failures_of : Option Failure → List Failure
failures_of None = []
failures_of (Some f) = f ∷ []

-- the failures that the shards ended with
abbrev pub failures : List Event → List Failure
failures [] = []
failures (asks i ∷ es) = failures es
failures (arrives i batch ∷ es) = failures es
failures (ends i failure ∷ es) = failures_of failure ++ failures es
failures (takes x ∷ es) = failures es

-- one of the failures, which none of them is before; none where there are none
abbrev pub IsLeast : List Failure → Option Failure → Type 0
IsLeast fs None = fs ≡ []
IsLeast fs (Some f) = Contains fs f × All (λ g. failure_before g f ≡ false) fs

-- by whatever schedule, it is the least failure that a shard ended with
abbrev pub HasLeast : Core → Option Failure → Type 0
HasLeast c failure = (events : List Event) → StandsFor c events → IsLeast (failures events) failure

-- of one schedule after another
abbrev pub TakenJoins : Type 0
TakenJoins = (es later : List Event) → taken (es ++ later) ≡ taken es ++ taken later

abbrev pub ListsJoin : Type 0
ListsJoin = (n : ℕ) (es later : List Event) → lists n (es ++ later) ≡ given later (lists n es)

abbrev pub FailuresJoin : Type 0
FailuresJoin = (es later : List Event) → failures (es ++ later) ≡ failures es ++ failures later

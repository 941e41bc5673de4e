-- What the core answers, and the event of an answer.
use Rattle.std.specs.Prelude.{◌≡◌, ℕ, List, [], ◌∷◌, Option, Some, None}
use Rattle.merge_cursor.specs.declared.answer.Take.{Take}
use Rattle.merge_cursor.specs.declared.answer.Take.TheVariants.{Item, NotYet, Ended}
use Rattle.merge_cursor.specs.declared.item.Keyed.{Keyed}
use Rattle.merge_cursor.specs.Core.{Core}
use Rattle.merge_cursor.specs.Shards.{AllUsedUp, Lacks}
use Rattle.merge_cursor.specs.Schedule.{Takes, Event, asks, takes}

-- the item is taken; or nothing changes, and the choice needs a shard that has nothing waiting, or each shard is used up
abbrev pub Answers : Core → Take → Core → Type 0
Answers old (Item x) new = Takes old x new
Answers old NotYet new = (new ≡ old) × Lacks old.by_key old.shards
Answers old Ended new = (new ≡ old) × AllUsedUp old.shards

-- the item, or none yet
abbrev pub take_of : Option Keyed → Take
take_of None = NotYet
take_of (Some x) = Item x

-- the event of an answer to a take
abbrev pub took : Take → List Event
took (Item x) = takes x ∷ []
took NotYet = []
took Ended = []

-- the event of an answer to the question whom to ask
abbrev pub asked : Option ℕ → List Event
asked None = []
asked (Some i) = asks i ∷ []

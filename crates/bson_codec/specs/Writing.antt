-- What writing does to the bytes that it appends to.
use Rattle.std.specs.Prelude.{◌≡◌, ℕ, ◌-◌, List, ◌++◌, length, take, Result, Ok, Err, Option, Some, None, nat_le, if◌then◌else◌}

-- the bytes that stood there stand yet
abbrev pub Begins : List ℕ → List ℕ → Type 0
Begins old new = take (length old) new ≡ old

-- a piece was appended; or memory ran out, and what stood there stands yet
abbrev pub Adds : {X E : Type 0} → Result X E → List ℕ → List ℕ → List ℕ → Type 0
Adds (Ok x) old new piece = new ≡ old ++ piece
Adds (Err e) old new piece = Begins old new

-- what is left of a number of bytes where so many are taken, if there are so many
abbrev pub less : ℕ → ℕ → Option ℕ
less room n = if nat_le n room then Some (room - n) else None

-- a number that a cap allows
abbrev pub capped : ℕ → ℕ → Option ℕ
capped cap n = if nat_le n cap then Some n else None

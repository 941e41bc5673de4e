-- What a sink has taken of the bytes that it was to take.
use Rattle.std.specs.Prelude.{ℕ, List, Option, Ok, Err, take}
use Rattle.std.specs.Io.KnownBytes.{Appends, Keeps}
use Rattle.aggregate_command.specs.Status.{Step}

-- some front of bs
abbrev pub AppendsFront : Option (List ℕ) → Option (List ℕ) → List ℕ → Type 0
AppendsFront old new bs = (k : ℕ) × Appends old new (take k bs)

-- a front of what is to be written, and nothing where nothing is
abbrev pub TakesFront : Option (List ℕ) → Option (List ℕ) → Step (List ℕ) → Type 0
TakesFront old new (Ok bytes) = AppendsFront old new bytes
TakesFront old new (Err refusal) = Keeps old new

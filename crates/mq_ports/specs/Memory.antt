-- What the objects in memory are: what they have, which of their calls are to fail, and their counts.
-- Calls are numbered from 1, and are those that may answer that they failed.
use Rattle.std.specs.Prelude.{ℕ, Bool, List, Option, ◌==◌}
use Rattle.std.specs.List.{list_any}
use Rattle.mq_ports.specs.Causes.{one_more}
use Rattle.mq_ports.specs.World.{Held}

-- whether the call after so many others is one of those that are to fail
abbrev pub next_fails : List ℕ → ℕ → Bool
next_fails failing calls = list_any (λ call. call == one_more calls) failing

pub record FilesInMemory : Type 0 where
  pub held : Held
  pub failing : List ℕ
  pub calls : ℕ
  pub faults : ℕ

pub record SureFilesInMemory : Type 0 where
  pub held : Held
  pub calls : ℕ

pub record SinkInMemory : Type 0 where
  pub taken : List ℕ
  pub failing : List ℕ
  pub calls : ℕ
  pub faults : ℕ

-- a store of runs that refuses each call
pub record SpillInMemory : Type 0 where
  pub failing : List ℕ
  pub calls : ℕ
  pub faults : ℕ

-- a target that refuses each call
pub record TargetInMemory : Type 0 where
  pub selected : Option (List ℕ)
  pub failing : List ℕ
  pub calls : ℕ
  pub faults : ℕ

-- a target of the system, which tells only these
pub record TargetOnDisk : Type 0 where
  pub selected : Option (List ℕ)
  pub faults : ℕ

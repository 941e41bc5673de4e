-- A core, as its callers see it.
use Rattle.std.specs.Prelude.{Bool, List, Option, Some, None, if◌then◌else◌, nat_lt, nat_eq, ◌&&◌, ◌||◌}
use Rattle.bson_value.specs.declared.errors.Failure.{Failure}
use Rattle.bson_value.specs.Codes.{code_number}
use Rattle.merge_cursor.specs.declared.shards.Shard.{Shard}

pub record Core : Type 0 where
  pub by_key : Bool
  pub shards : List Shard
  pub least : Option Failure

-- by the stage, and then by the number of the code
abbrev pub failure_before : Failure → Failure → Bool
failure_before f g = nat_lt f.stage g.stage || (nat_eq f.stage g.stage && nat_lt (code_number f.code) (code_number g.code))

-- the lesser of two failures
abbrev pub lesser : Option Failure → Option Failure → Option Failure
lesser None g = g
lesser (Some f) None = Some f
lesser (Some f) (Some g) = if failure_before g f then Some g else Some f

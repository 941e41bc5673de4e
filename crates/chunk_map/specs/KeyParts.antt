-- What is known of the parts of a key while it is made.
use Rattle.std.specs.Prelude.{◌≡◌, ℕ, true, false, List, map, take, Option, option_map, Result, Ok, Err}
use denote.Ref.{Bor}
use Rattle.bson_value.specs.declared.value.Value.{Value}
use Rattle.bson_value.specs.Paths.{Steps, plain}
use Rattle.bson_value.specs.Tree.{Tree}
use Rattle.bson_value.specs.View.{tree_of}
use Rattle.chunk_map.specs.Keys.{meets_array, part_value}

-- a borrowed value, or a missing one
abbrev pub part_of : Option (Bor Value) → Tree
part_of o = part_value (option_map (λ v. tree_of v.now) o)

-- the first so many parts
abbrev pub key_parts : ℕ → List (Option (Bor Value)) → List Tree
key_parts n parts = map part_of (take n parts)

-- the value at the path's plain way, or that it meets an array
abbrev pub IsPart : {E : Type 0} → Result (Option (Bor Value)) E → Steps → Tree → Type 0
IsPart (Ok o) path t = (meets_array path t ≡ false) × (option_map (λ v. tree_of v.now) o ≡ plain path t)
IsPart (Err e) path t = meets_array path t ≡ true

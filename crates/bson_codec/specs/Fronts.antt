-- A front of what stands at a place of a file, from which the record there is read.
use Rattle.std.specs.Prelude.{◌≡◌, ℕ, ◌+◌, ◌≤◌, ◌⊎◌, List, ◌++◌, length, take, drop, nat_lt, if◌then◌else◌}
use Rattle.std.specs.Int.{w32, from_le_bytes}

-- how many bytes tell a record of that length. A length that no record has is told by its own four bytes
abbrev pub told_by : ℕ → ℕ
told_by n = if nat_lt n 5 then 4 else (if nat_lt 16777216 n then 4 else n)

-- how many bytes a front is to have, as far as it shows
unfoldable pub needed : List ℕ → ℕ
needed front = if nat_lt (length front) 4 then 4 else told_by (from_le_bytes w32 (take 4 front))

-- a front of what stands at a place of a file, which has the record there whole, or all that is left of the file
pub record IsFrontAt (file : List ℕ) (at : ℕ) (front : List ℕ) : Type 0 where
  pub within : at ≤ length file
  pub parts : drop at file ≡ front ++ drop (at + length front) file
  pub enough : (needed front ≤ length front) ⊎ (at + length front ≡ length file)

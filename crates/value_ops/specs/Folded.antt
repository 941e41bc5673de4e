-- Operands that are read one after another into a state, which is lost where one is null or missing.
use Rattle.std.specs.Prelude.{ℕ, ℤ, pos, neg_ℤ, ◌≤ℤ◌, List, fold, Option, Some, None, Ok, Err}
use Rattle.std.specs.Option.{option_map}
use Rattle.bson_value.specs.Operands.{Operand}

-- the state with one more operand
abbrev pub with_operand : {A S : Type 0} → (S → A → S) → Option S → Option A → Option S
with_operand step None x = None
with_operand step (Some s) None = None
with_operand step (Some s) (Some x) = Some (step s x)

-- the state with all of the operands that are left
abbrev pub after : {A S : Type 0} → (S → A → S) → Option S → Operand (List A) → Operand S
after step s (Err c) = Err c
after step None (Ok x) = Ok None
after step (Some s) (Ok x) = Ok (option_map (fold step s) x)

-- a number of at most that size
abbrev pub IsWithin : ℕ → ℤ → Type 0
IsWithin n z = (neg_ℤ (pos n) ≤ℤ z) × (z ≤ℤ pos n)

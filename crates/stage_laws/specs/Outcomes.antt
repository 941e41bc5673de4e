-- What several parts of an expression give, from left to right.
use Rattle.std.specs.Prelude.{◌≡◌, Bool, false, List, ◌∷◌, ◌++◌, map, Result, Ok, Err}
use Rattle.bson_value.specs.Operands.{Outcome, counts}
use Rattle.bson_value.specs.declared.eval_code.EvalCode.{EvalCode}

-- each part gives its value
abbrev pub AllGive : {V : Type 0} → List (Result V EvalCode) → List V → Type 0
AllGive rs vs = map Ok vs ≡ rs

-- a part gives this code, and all parts before it give values
abbrev pub IsFirstCode : {V : Type 0} → List (Result V EvalCode) → EvalCode → Type 0
IsFirstCode {V} rs c = (vs : List V) × (back : List (Result V EvalCode)) × (map Ok vs ++ Err c ∷ back ≡ rs)

-- a condition keeps its element where its value counts as true
abbrev pub keeps : Outcome → Bool
keeps (Ok v) = counts v
keeps (Err c) = false

-- The rows of arithmetic (the manual, Arithmetic Expression Operators).
use Rattle.std.specs.Prelude.{ℕ, nat_lt, Bool, ◌&&◌, ◌==◌, ℤ, pos, ◌+ℤ◌, ◌-ℤ◌, ◌*ℤ◌, int_rem, unsigned_abs, List, [], ◌∷◌, map, fold, Option, Some, Result, Ok, Err, if◌then◌else◌}
use Rattle.std.specs.Ordering.{int_eq}
use Rattle.std.specs.List.{list_all, count_by}
use Rattle.bson_value.specs.Tree.{Leaf, int, long, date, Tree}
use Rattle.bson_value.specs.declared.eval_code.EvalCode.{EvalCode}
use Rattle.bson_value.specs.declared.eval_code.EvalCode.TheVariants.{WrongType, Overflow, ZeroDivisor}
use Rattle.bson_value.specs.Operands.{Outcome, Operand, both, all, row, scalar, null_or, whole_in, is_int, is_date, is_int64, wrong_count, long_of, date_of, whole_of}

-- a whole number or a date
abbrev pub leaf_summand : Leaf → Operand ℤ
leaf_summand (int n) = Ok (Some n)
leaf_summand (long n) = Ok (Some n)
leaf_summand (date n) = Ok (Some n)
leaf_summand l = null_or WrongType l

abbrev pub summand_in : Option Tree → Operand ℤ
summand_in v = scalar leaf_summand v

-- `$add`: the exact sum, which is a date where one of the operands is; a second date is of the wrong kind
abbrev pub sum_of : List ℤ → ℤ
sum_of ns = fold ◌+ℤ◌ (pos 0) ns

abbrev pub sum_typed : ℕ → Bool → ℤ → Outcome
sum_typed dates narrow n = if dates == 1 then date_of n else whole_of narrow n

abbrev pub add_row : List (Option Tree) → Outcome
add_row vs =
    if nat_lt 1 (count_by is_date vs) then Err WrongType
    else row (all (map summand_in vs)) (λ ns. sum_typed (count_by is_date vs) (list_all is_int vs) (sum_of ns))

-- `$subtract`: of two dates the milliseconds between them; a date isn't taken from a number
abbrev pub difference : Option Tree → Option Tree → ℤ → Outcome
difference a b n =
    if is_date b then (if is_date a then long_of n else Err WrongType)
    else (if is_date a then date_of n else whole_of (is_int a && is_int b) n)

abbrev pub subtract_row : List (Option Tree) → Outcome
subtract_row (a ∷ b ∷ []) = row (both (summand_in a) (summand_in b)) (λ p. difference a b (p.0 -ℤ p.1))
subtract_row _ = wrong_count

-- `$multiply`: each running product from the left has to fit 64 bits
abbrev pub times : Result ℤ EvalCode → ℤ → Result ℤ EvalCode
times (Err c) n = Err c
times (Ok p) n = if is_int64 (p *ℤ n) then Ok (p *ℤ n) else Err Overflow

abbrev pub product_typed : Bool → Result ℤ EvalCode → Outcome
product_typed narrow (Err c) = Err c
product_typed narrow (Ok n) = whole_of narrow n

abbrev pub multiply_row : List (Option Tree) → Outcome
multiply_row vs =
    row (all (map whole_in vs)) (λ ns. product_typed (list_all is_int vs) (fold times (Ok (pos 1)) ns))

-- `$mod`: the remainder, which has the dividend's sign
abbrev pub remainder : Bool → ℤ → ℤ → Outcome
remainder narrow n d = if int_eq d (pos 0) then Err ZeroDivisor else whole_of narrow (int_rem n d)

abbrev pub mod_row : List (Option Tree) → Outcome
mod_row (a ∷ b ∷ []) = row (both (whole_in a) (whole_in b)) (λ p. remainder (is_int a && is_int b) p.0 p.1)
mod_row _ = wrong_count

-- `$abs`
abbrev pub abs_row : List (Option Tree) → Outcome
abs_row (a ∷ []) = row (whole_in a) (λ n. whole_of (is_int a) (pos (unsigned_abs n)))
abs_row _ = wrong_count

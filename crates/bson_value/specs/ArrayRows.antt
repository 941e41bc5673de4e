-- The rows of arrays (the manual, Array Expression Operators).
use Rattle.std.specs.Prelude.{ℕ, suc, ◌-◌, nat_lt, min, ℤ, pos, negsuc, ◌+ℤ◌, ◌*ℤ◌, int_lt, unsigned_abs, List, [], ◌∷◌, ◌++◌, map, reverse, take, drop, length, slice_get, Option, Some, None, Ok, Err, if◌then◌else◌}
use Rattle.std.specs.Ordering.{int_eq}
use Rattle.std.specs.Int.{div_ceil, int_gap}
use Rattle.std.specs.List.{list_any, fold, range_with_len}
use Rattle.bson_value.specs.Tree.{Tree, leaf, int}
use Rattle.bson_value.specs.declared.eval_code.EvalCode.TheVariants.{WrongType, NotArray, BadCount, RangeTooLong}
use Rattle.bson_value.specs.Operands.{Outcome, Operand, both, all, row, needed, whole_in, array_in, alike, is_int32, wrong_count, gives_int, gives_flag, gives_array}

-- `$size`: null and missing are no arrays; a length beyond an Int is given as the greatest Int
abbrev pub length_of : ℕ → Outcome
length_of n = gives_int (pos (min n 2_147_483_647))

abbrev pub size_row : List (Option Tree) → Outcome
size_row (v ∷ []) = row (needed NotArray (array_in v)) (λ ts. length_of (length ts))
size_row _ = wrong_count

-- `$in`: whether an item equals the first operand, which may be anything
abbrev pub in_row : List (Option Tree) → Outcome
in_row (v ∷ a ∷ []) = row (needed NotArray (array_in a)) (λ ts. gives_flag (list_any (λ t. alike v (Some t)) ts))
in_row _ = wrong_count

-- `$arrayElemAt`: the item at a place, from the end where it is negative, else missing
abbrev pub item_at : ℤ → List Tree → Option Tree
item_at (pos i) ts = slice_get ts i
item_at (negsuc i) ts = slice_get (reverse ts) i

abbrev pub array_elem_at_row : List (Option Tree) → Outcome
array_elem_at_row (a ∷ i ∷ []) = row (both (array_in a) (whole_in i)) (λ p. Ok (item_at p.1 p.0))
array_elem_at_row _ = wrong_count

-- `$first`, `$last`
abbrev pub first_row : List (Option Tree) → Outcome
first_row (a ∷ []) = row (array_in a) (λ ts. Ok (item_at (pos 0) ts))
first_row _ = wrong_count

abbrev pub last_row : List (Option Tree) → Outcome
last_row (a ∷ []) = row (array_in a) (λ ts. Ok (item_at (negsuc 0) ts))
last_row _ = wrong_count

-- `$concatArrays`
abbrev pub concat_arrays_row : List (Option Tree) → Outcome
concat_arrays_row vs = row (all (map array_in vs)) (λ tss. gives_array (fold ◌++◌ [] tss))

-- where the items from a place on begin: a negative place counts from the end, as far as the front
abbrev pub start_in : ℕ → ℤ → ℕ
start_in len (pos i) = i
start_in len (negsuc i) = len - suc i

-- `$slice`: the first n items or, for a negative number, the last so many
abbrev pub end_items : ℤ → List Tree → List Tree
end_items (pos n) ts = take n ts
end_items (negsuc n) ts = drop (start_in (length ts) (negsuc n)) ts

-- with a place, n items from it, and n has to be positive
abbrev pub middle_items : ℤ → ℤ → List Tree → Outcome
middle_items i n ts =
    if int_lt (pos 0) n then gives_array (take (unsigned_abs n) (drop (start_in (length ts) i) ts)) else Err BadCount

abbrev pub slice_row : List (Option Tree) → Outcome
slice_row (a ∷ n ∷ []) = row (both (array_in a) (whole_in n)) (λ p. gives_array (end_items p.1 p.0))
slice_row (a ∷ i ∷ n ∷ []) =
    row (both (array_in a) (both (whole_in i) (whole_in n))) (λ p. middle_items p.1.0 p.1.1 p.0)
slice_row _ = wrong_count

-- `$reverseArray`
abbrev pub reverse_array_row : List (Option Tree) → Outcome
reverse_array_row (a ∷ []) = row (array_in a) (λ ts. gives_array (reverse ts))
reverse_array_row _ = wrong_count

-- `$range`: its operands are whole numbers within an Int, and none is null or missing
abbrev pub within_int : Operand ℤ → Operand ℤ
within_int (Err c) = Err c
within_int (Ok None) = Err WrongType
within_int (Ok (Some n)) = if is_int32 n then Ok (Some n) else Err WrongType

abbrev pub edge_in : Option Tree → Operand ℤ
edge_in v = within_int (whole_in v)

-- the number of steps from the start on that stay before the end
abbrev pub steps_between : ℤ → ℤ → ℤ → ℕ
steps_between start end step =
    div_ceil (if int_lt (pos 0) step then int_gap start end else int_gap end start) (unsigned_abs step)

abbrev pub numbers_from : ℤ → ℤ → ℕ → List Tree
numbers_from start step n = map (λ k. leaf (int (start +ℤ pos k *ℤ step))) (range_with_len 0 n)

abbrev pub range_of : ℤ → ℤ → ℤ → Outcome
range_of start end step =
    if int_eq step (pos 0) then Err BadCount
    else (if nat_lt 1_048_576 (steps_between start end step) then Err RangeTooLong
    else gives_array (numbers_from start step (steps_between start end step)))

abbrev pub range_row : List (Option Tree) → Outcome
range_row (a ∷ b ∷ []) = row (both (edge_in a) (edge_in b)) (λ p. range_of p.0 p.1 (pos 1))
range_row (a ∷ b ∷ s ∷ []) =
    row (both (edge_in a) (both (edge_in b) (edge_in s))) (λ p. range_of p.0 p.1.0 p.1.1)
range_row _ = wrong_count

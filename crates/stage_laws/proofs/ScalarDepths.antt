-- The operators that give scalars, which hold no other value.
use Rattle.std.proofs.Common.{ℕ, ◌≤◌, Bool, true, false, cond, List, [], ◌∷◌, ◌++◌, map, length, arith}
use Rattle.std.specs.Prelude.{Option, Some, None, Result, Ok, Err, ℤ, pos, negsuc, ◌-ℤ◌, int_rem, unsigned_abs, nat_lt, ◌==◌, ◌&&◌}
use Rattle.std.specs.List.{list_any, list_all, count_by, fold}
use Rattle.std.specs.Ordering.{int_eq}
use Rattle.std.specs.declared.cmp.Ordering.{Ordering}
use Rattle.std.specs.Str.{chars}
use Rattle.bson_value.specs.Tree.{Tree}
use Rattle.bson_value.specs.Operands.{Outcome, Operand, row, both, all, needed, array_in, text_in, whole_in, alike, is_int, is_date, is_int32, is_int64, long_of, date_of, whole_of, gives_flag, gives_text}
use Rattle.bson_value.specs.NumberRows.{summand_in, sum_of, sum_typed, add_row, difference, subtract_row, times, product_typed, multiply_row, remainder, mod_row, abs_row}
use Rattle.bson_value.specs.CompareRows.{cmp_row, compared, not_row, is_array_row, is_number_row, type_row}
use Rattle.bson_value.specs.ArrayRows.{length_of, size_row, in_row}
use Rattle.bson_value.specs.SetRows.{is_subset, set_is_subset_row, are_equal, set_equals_row}
use Rattle.bson_value.specs.TextRows.{concat_row, str_len_bytes_row, str_len_cp_row, part_of, or_empty_text, substr_cp_row}
use Rattle.bson_value.specs.ConversionRows.{number_from, long_from, int_made, long_made, to_int_row, to_long_row, shown_from, to_string_row}
use Rattle.bson_value.specs.declared.eval_code.EvalCode.{EvalCode}
use Rattle.bson_value.specs.declared.eval_code.EvalCode.TheVariants.{WrongType, NotArray}
use Rattle.stage_laws.proofs.Fitting.{Fits, row_any}

-- a scalar's depth
pub none : 0 ≤ 0
none = omega arith

pub either : (b : Bool) (x y : Outcome) → Fits 0 x → Fits 0 y → Fits 0 (cond b x y)
either true x y h k = h
either false x y h k = k

-- ---- arithmetic

long_fits : (n : ℤ) → Fits 0 (long_of n)
long_fits n = either (is_int64 n) _ _ none tt

date_fits : (n : ℤ) → Fits 0 (date_of n)
date_fits n = either (is_int64 n) _ _ none tt

whole_fits : (b : Bool) (n : ℤ) → Fits 0 (whole_of b n)
whole_fits b n = either (b && is_int32 n) _ (long_of n) none (long_fits n)

pub add_fits : (vs : List (Option Tree)) → Fits 0 (add_row vs)
add_fits vs =
    either (nat_lt 1 (count_by is_date vs)) _ (row (all (map summand_in vs)) (λ ns. sum_typed (count_by is_date vs) (list_all is_int vs) (sum_of ns))) tt
    (row_any 0 (all (map summand_in vs)) _ (λ ns. either (count_by is_date vs == 1) (date_of (sum_of ns)) (whole_of (list_all is_int vs) (sum_of ns)) (date_fits (sum_of ns)) (whole_fits (list_all is_int vs) (sum_of ns))))

difference_fits : (a b : Option Tree) (n : ℤ) → Fits 0 (difference a b n)
difference_fits a b n =
    either (is_date b) (cond (is_date a) (long_of n) (Err WrongType)) (cond (is_date a) (date_of n) (whole_of (is_int a && is_int b) n))
    (either (is_date a) (long_of n) (Err WrongType) (long_fits n) tt)
    (either (is_date a) (date_of n) (whole_of (is_int a && is_int b) n) (date_fits n) (whole_fits (is_int a && is_int b) n))

pub subtract_fits : (vs : List (Option Tree)) → Fits 0 (subtract_row vs)
subtract_fits [] = tt
subtract_fits (a ∷ []) = tt
subtract_fits (a ∷ b ∷ []) = row_any 0 (both (summand_in a) (summand_in b)) (λ p. difference a b (p.0 -ℤ p.1)) (λ p. difference_fits a b (p.0 -ℤ p.1))
subtract_fits (a ∷ b ∷ v ∷ vs) = tt

product_fits : (b : Bool) (r : Result ℤ EvalCode) → Fits 0 (product_typed b r)
product_fits b (Err c) = tt
product_fits b (Ok n) = whole_fits b n

pub multiply_fits : (vs : List (Option Tree)) → Fits 0 (multiply_row vs)
multiply_fits vs = row_any 0 (all (map whole_in vs)) (λ ns. product_typed (list_all is_int vs) (fold times (Ok (pos 1)) ns)) (λ ns. product_fits (list_all is_int vs) (fold times (Ok (pos 1)) ns))

pub mod_fits : (vs : List (Option Tree)) → Fits 0 (mod_row vs)
mod_fits [] = tt
mod_fits (a ∷ []) = tt
mod_fits (a ∷ b ∷ []) =
    row_any 0 (both (whole_in a) (whole_in b)) (λ p. remainder (is_int a && is_int b) p.0 p.1) (λ p. either (int_eq p.1 (pos 0)) _ (whole_of (is_int a && is_int b) (int_rem p.0 p.1)) tt (whole_fits (is_int a && is_int b) (int_rem p.0 p.1)))
mod_fits (a ∷ b ∷ v ∷ vs) = tt

pub abs_fits : (vs : List (Option Tree)) → Fits 0 (abs_row vs)
abs_fits [] = tt
abs_fits (a ∷ []) = row_any 0 (whole_in a) (λ n. whole_of (is_int a) (pos (unsigned_abs n))) (λ n. whole_fits (is_int a) (pos (unsigned_abs n)))
abs_fits (a ∷ v ∷ vs) = tt

-- ---- comparisons and tests

pub cmp_fits : (vs : List (Option Tree)) → Fits 0 (cmp_row vs)
cmp_fits [] = tt
cmp_fits (a ∷ []) = tt
cmp_fits (a ∷ b ∷ []) = none
cmp_fits (a ∷ b ∷ v ∷ vs) = tt

pub compared_fits : (test : Ordering → Bool) (vs : List (Option Tree)) → Fits 0 (compared test vs)
compared_fits test [] = tt
compared_fits test (a ∷ []) = tt
compared_fits test (a ∷ b ∷ []) = none
compared_fits test (a ∷ b ∷ v ∷ vs) = tt

pub not_fits : (vs : List (Option Tree)) → Fits 0 (not_row vs)
not_fits [] = tt
not_fits (a ∷ []) = none
not_fits (a ∷ v ∷ vs) = tt

pub is_array_fits : (vs : List (Option Tree)) → Fits 0 (is_array_row vs)
is_array_fits [] = tt
is_array_fits (a ∷ []) = none
is_array_fits (a ∷ v ∷ vs) = tt

pub is_number_fits : (vs : List (Option Tree)) → Fits 0 (is_number_row vs)
is_number_fits [] = tt
is_number_fits (a ∷ []) = none
is_number_fits (a ∷ v ∷ vs) = tt

pub type_fits : (vs : List (Option Tree)) → Fits 0 (type_row vs)
type_fits [] = tt
type_fits (a ∷ []) = none
type_fits (a ∷ v ∷ vs) = tt

-- ---- arrays and sets

pub size_fits : (vs : List (Option Tree)) → Fits 0 (size_row vs)
size_fits [] = tt
size_fits (a ∷ []) = row_any 0 (needed NotArray (array_in a)) (λ ts. length_of (length ts)) (λ ts. none)
size_fits (a ∷ v ∷ vs) = tt

pub in_fits : (vs : List (Option Tree)) → Fits 0 (in_row vs)
in_fits [] = tt
in_fits (a ∷ []) = tt
in_fits (v ∷ a ∷ []) = row_any 0 (needed NotArray (array_in a)) (λ ts. gives_flag (list_any (λ t. alike v (Some t)) ts)) (λ ts. none)
in_fits (a ∷ b ∷ v ∷ vs) = tt

pub subset_fits : (vs : List (Option Tree)) → Fits 0 (set_is_subset_row vs)
subset_fits [] = tt
subset_fits (a ∷ []) = tt
subset_fits (a ∷ b ∷ []) = row_any 0 (needed NotArray (both (array_in a) (array_in b))) (λ p. gives_flag (is_subset p.0 p.1)) (λ p. none)
subset_fits (a ∷ b ∷ v ∷ vs) = tt

pub equals_fits : (vs : List (Option Tree)) → Fits 0 (set_equals_row vs)
equals_fits [] = tt
equals_fits (a ∷ []) = tt
equals_fits (a ∷ b ∷ vs) = row_any 0 (needed NotArray (all (map array_in (a ∷ b ∷ vs)))) (λ tss. gives_flag (are_equal tss)) (λ tss. none)

-- ---- texts

pub concat_fits : (vs : List (Option Tree)) → Fits 0 (concat_row vs)
concat_fits vs = row_any 0 (all (map text_in vs)) (λ ss. gives_text (fold ◌++◌ [] ss)) (λ ss. none)

pub bytes_fits : (vs : List (Option Tree)) → Fits 0 (str_len_bytes_row vs)
bytes_fits [] = tt
bytes_fits (a ∷ []) = row_any 0 (needed WrongType (text_in a)) (λ s. length_of (length s)) (λ s. none)
bytes_fits (a ∷ v ∷ vs) = tt

pub points_fits : (vs : List (Option Tree)) → Fits 0 (str_len_cp_row vs)
points_fits [] = tt
points_fits (a ∷ []) = row_any 0 (needed WrongType (text_in a)) (λ s. length_of (length (chars s))) (λ s. none)
points_fits (a ∷ v ∷ vs) = tt

part_fits : (s : List ℕ) (i n : ℤ) → Fits 0 (part_of s i n)
part_fits s (pos i) (pos n) = none
part_fits s (pos i) (negsuc n) = tt
part_fits s (negsuc i) n = tt

text_fits : {A : Type 0} (a : Operand A) (value : A → Outcome) → ((x : A) → Fits 0 (value x)) → Fits 0 (or_empty_text a value)
text_fits (Err c) value h = tt
text_fits (Ok None) value h = none
text_fits (Ok (Some x)) value h = h x

pub substring_fits : (vs : List (Option Tree)) → Fits 0 (substr_cp_row vs)
substring_fits [] = tt
substring_fits (t ∷ []) = tt
substring_fits (t ∷ i ∷ []) = tt
substring_fits (t ∷ i ∷ n ∷ []) =
    text_fits (both (text_in t) (both (needed WrongType (whole_in i)) (needed WrongType (whole_in n)))) (λ p. part_of p.0 p.1.0 p.1.1) (λ p. part_fits p.0 p.1.0 p.1.1)
substring_fits (t ∷ i ∷ n ∷ v ∷ vs) = tt

-- ---- conversions

pub to_int_fits : (vs : List (Option Tree)) → Fits 0 (to_int_row vs)
to_int_fits [] = tt
to_int_fits (a ∷ []) = row_any 0 (number_from a) int_made (λ n. either (is_int32 n) _ _ none tt)
to_int_fits (a ∷ v ∷ vs) = tt

pub to_long_fits : (vs : List (Option Tree)) → Fits 0 (to_long_row vs)
to_long_fits [] = tt
to_long_fits (a ∷ []) = row_any 0 (long_from a) long_made (λ n. either (is_int64 n) _ _ none tt)
to_long_fits (a ∷ v ∷ vs) = tt

pub to_string_fits : (vs : List (Option Tree)) → Fits 0 (to_string_row vs)
to_string_fits [] = tt
to_string_fits (a ∷ []) = row_any 0 (shown_from a) gives_text (λ s. none)
to_string_fits (a ∷ v ∷ vs) = tt

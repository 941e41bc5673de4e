-- The rows of conversions (the manual, Type Expression Operators).
use Rattle.std.specs.Prelude.{ℕ, Bool, true, false, ◌&&◌, nat_le, ◌==◌, ℤ, pos, neg_ℤ, List, [], ◌∷◌, length, codes, Option, Some, None, Ok, Err, if◌then◌else◌}
use Rattle.std.specs.Option.{option_map}
use Rattle.std.specs.Str.{all_ascii_digits}
use Rattle.std.specs.Str.Parse.{digits_value}
use Rattle.std.specs.Fmt.{signed_decimal}
use Rattle.bson_value.specs.Tree.{Leaf, null, int, long, text, flag, date, Tree, leaf, doc, list}
use Rattle.bson_value.specs.declared.eval_code.EvalCode.TheVariants.{BadConversion}
use Rattle.bson_value.specs.Operands.{Outcome, Operand, row, null_or, is_int32, is_int64, wrong_count, gives, gives_int, gives_text}

-- the number that a text spells: an optional `-` and 1 to 19 digits
abbrev pub unsigned : List ℕ → Option ℤ
unsigned ds = if (all_ascii_digits ds && nat_le 1 (length ds)) && nat_le (length ds) 19 then Some (pos (digits_value 10 ds)) else None

abbrev pub spelled : List ℕ → Option ℤ
spelled [] = None
spelled (c ∷ cs) = if c == 45 then option_map neg_ℤ (unsigned cs) else unsigned (c ∷ cs)

-- the kind of what can be converted: of scalars
abbrev pub convertible : {A : Type 0} → (Leaf → Operand A) → Option Tree → Operand A
convertible kind None = Ok None
convertible kind (Some (leaf l)) = kind l
convertible kind (Some (doc ps)) = Err BadConversion
convertible kind (Some (list ts)) = Err BadConversion

abbrev pub read_number : Option ℤ → Operand ℤ
read_number None = Err BadConversion
read_number (Some n) = Ok (Some n)

-- whole numbers, booleans as 1 and 0, and texts that spell a number
abbrev pub leaf_number_of : Leaf → Operand ℤ
leaf_number_of (int n) = Ok (Some n)
leaf_number_of (long n) = Ok (Some n)
leaf_number_of (flag b) = Ok (Some (pos (if b then 1 else 0)))
leaf_number_of (text s) = read_number (spelled s)
leaf_number_of l = null_or BadConversion l

-- and dates, as their milliseconds
abbrev pub leaf_long_of : Leaf → Operand ℤ
leaf_long_of (date n) = Ok (Some n)
leaf_long_of l = leaf_number_of l

abbrev pub number_from : Option Tree → Operand ℤ
number_from v = convertible leaf_number_of v

abbrev pub long_from : Option Tree → Operand ℤ
long_from v = convertible leaf_long_of v

-- a number of a type, where it fits
abbrev pub int_made : ℤ → Outcome
int_made n = if is_int32 n then gives_int n else Err BadConversion

abbrev pub long_made : ℤ → Outcome
long_made n = if is_int64 n then gives (leaf (long n)) else Err BadConversion

-- `$toInt`
abbrev pub to_int_row : List (Option Tree) → Outcome
to_int_row (v ∷ []) = row (number_from v) int_made
to_int_row _ = wrong_count

-- `$toLong`
abbrev pub to_long_row : List (Option Tree) → Outcome
to_long_row (v ∷ []) = row (long_from v) long_made
to_long_row _ = wrong_count

-- `$toString`: whole numbers in decimal, booleans as their names, texts as they are
abbrev pub leaf_shown : Leaf → Operand (List ℕ)
leaf_shown (int n) = Ok (Some (signed_decimal n))
leaf_shown (long n) = Ok (Some (signed_decimal n))
leaf_shown (flag b) = Ok (Some (if b then codes "true" else codes "false"))
leaf_shown (text s) = Ok (Some s)
leaf_shown l = null_or BadConversion l

abbrev pub shown_from : Option Tree → Operand (List ℕ)
shown_from v = convertible leaf_shown v

abbrev pub to_string_row : List (Option Tree) → Outcome
to_string_row (v ∷ []) = row (shown_from v) gives_text
to_string_row _ = wrong_count

-- What the rows of the operators share: what a row gives, how an operand is read as one of a kind, and the rule that
-- a row goes by unless it says otherwise (the manual, Aggregation Operators).
use Rattle.std.specs.Prelude.{ℕ, Bool, true, false, not, ◌&&◌, ℤ, pos, neg_ℤ, int_le, List, [], ◌∷◌, Option, Some, None, Result, Ok, Err, if◌then◌else◌}
use Rattle.std.specs.Option.{option_map, option_zip}
use Rattle.std.specs.Ordering.{int_eq, is_eq}
use Rattle.bson_value.specs.Tree.{Leaf, null, int, long, text, flag, date, Tree, leaf, doc, list, trees_of, entries, members}
use Rattle.bson_value.specs.Order.{found_order}
use Rattle.bson_value.specs.declared.eval_code.EvalCode.{EvalCode}
use Rattle.bson_value.specs.declared.eval_code.EvalCode.TheVariants.{WrongType, Overflow, NotArray, NotDocument}

-- ---- what a row gives: a value, missing, or a code

abbrev pub Outcome : Type 0
Outcome = Result (Option Tree) EvalCode

abbrev pub gives : Tree → Outcome
gives t = Ok (Some t)

abbrev pub gives_null : Outcome
gives_null = gives (leaf null)

abbrev pub gives_flag : Bool → Outcome
gives_flag b = gives (leaf (flag b))

abbrev pub gives_text : List ℕ → Outcome
gives_text s = gives (leaf (text s))

abbrev pub gives_array : List Tree → Outcome
gives_array ts = gives (list (trees_of ts))

-- a number of operands that a row doesn't take
abbrev pub wrong_count : Outcome
wrong_count = Err WrongType

-- ---- the rule

-- an operand read as one of a kind: None where it is null or missing, the kind's code where it is of another kind
abbrev pub Operand : Type 0 → Type 0
Operand A = Result (Option A) EvalCode

abbrev pub operand_map : {A B : Type 0} → (A → B) → Operand A → Operand B
operand_map f (Err c) = Err c
operand_map f (Ok x) = Ok (option_map f x)

-- two operands: the first code from the left stands; then None where one is null or missing
abbrev pub both : {A B : Type 0} → Operand A → Operand B → Operand (A × B)
both (Err c) b = Err c
both (Ok x) (Err c) = Err c
both (Ok x) (Ok y) = Ok (option_zip x y)

-- any number of operands, in the same way
abbrev pub all : {A : Type 0} → List (Operand A) → Operand (List A)
all [] = Ok (Some [])
all (a ∷ rest) = operand_map (λ p. p.0 ∷ p.1) (both a (all rest))

-- a row's outcome: its operands' code; then null where one is null or missing; then its value
abbrev pub row : {A : Type 0} → Operand A → (A → Outcome) → Outcome
row (Err c) value = Err c
row (Ok None) value = gives_null
row (Ok (Some x)) value = value x

-- an operand that has to be there: null and missing have the code too
abbrev pub needed : {A : Type 0} → EvalCode → Operand A → Operand A
needed c (Err d) = Err d
needed c (Ok None) = Err c
needed c (Ok (Some x)) = Ok (Some x)

-- ---- the kinds

-- a kind of scalars
abbrev pub scalar : {A : Type 0} → (Leaf → Operand A) → Option Tree → Operand A
scalar kind None = Ok None
scalar kind (Some (leaf l)) = kind l
scalar kind (Some (doc ps)) = Err WrongType
scalar kind (Some (list ts)) = Err WrongType

-- null in a kind of scalars, and a scalar of no such kind
abbrev pub null_or : {A : Type 0} → EvalCode → Leaf → Operand A
null_or c null = Ok None
null_or c _ = Err c

-- a whole number
abbrev pub leaf_whole : Leaf → Operand ℤ
leaf_whole (int n) = Ok (Some n)
leaf_whole (long n) = Ok (Some n)
leaf_whole l = null_or WrongType l

abbrev pub whole_in : Option Tree → Operand ℤ
whole_in v = scalar leaf_whole v

-- a text
abbrev pub leaf_text : Leaf → Operand (List ℕ)
leaf_text (text s) = Ok (Some s)
leaf_text l = null_or WrongType l

abbrev pub text_in : Option Tree → Operand (List ℕ)
text_in v = scalar leaf_text v

-- a date, in milliseconds
abbrev pub leaf_date : Leaf → Operand ℤ
leaf_date (date n) = Ok (Some n)
leaf_date l = null_or WrongType l

abbrev pub date_in : Option Tree → Operand ℤ
date_in v = scalar leaf_date v

-- an array's items
abbrev pub array_in : Option Tree → Operand (List Tree)
array_in None = Ok None
array_in (Some (leaf l)) = null_or NotArray l
array_in (Some (doc ps)) = Err NotArray
array_in (Some (list ts)) = Ok (Some (members ts))

-- a document's fields
abbrev pub doc_in : Option Tree → Operand (List (List ℕ × Tree))
doc_in None = Ok None
doc_in (Some (leaf l)) = null_or NotDocument l
doc_in (Some (doc ps)) = Ok (Some (entries ps))
doc_in (Some (list ts)) = Err NotDocument

-- ---- what any operand counts as

-- false, null, missing and 0 count as false, and every other value as true
abbrev pub leaf_counts : Leaf → Bool
leaf_counts null = false
leaf_counts (int n) = not (int_eq n (pos 0))
leaf_counts (long n) = not (int_eq n (pos 0))
leaf_counts (flag b) = b
leaf_counts _ = true

abbrev pub counts : Option Tree → Bool
counts None = false
counts (Some (leaf l)) = leaf_counts l
counts (Some (doc ps)) = true
counts (Some (list ts)) = true

-- missing as null
abbrev pub or_null : Option Tree → Tree
or_null None = leaf null
or_null (Some t) = t

-- equal in the comparison order
abbrev pub alike : Option Tree → Option Tree → Bool
alike a b = is_eq (found_order a b)

-- ---- whole numbers and their types

abbrev pub is_int32 : ℤ → Bool
is_int32 n = int_le (neg_ℤ (pos 2_147_483_648)) n && int_le n (pos 2_147_483_647)

abbrev pub is_int64 : ℤ → Bool
is_int64 n = int_le (neg_ℤ (pos 9_223_372_036_854_775_808)) n && int_le n (pos 9_223_372_036_854_775_807)

-- of type Int
abbrev pub leaf_is_int : Leaf → Bool
leaf_is_int (int n) = true
leaf_is_int _ = false

abbrev pub is_int : Option Tree → Bool
is_int None = false
is_int (Some (leaf l)) = leaf_is_int l
is_int (Some (doc ps)) = false
is_int (Some (list ts)) = false

-- of type Date
abbrev pub leaf_is_date : Leaf → Bool
leaf_is_date (date n) = true
leaf_is_date _ = false

abbrev pub is_date : Option Tree → Bool
is_date None = false
is_date (Some (leaf l)) = leaf_is_date l
is_date (Some (doc ps)) = false
is_date (Some (list ts)) = false

abbrev pub gives_int : ℤ → Outcome
gives_int n = gives (leaf (int n))

-- the number as a Long
abbrev pub long_of : ℤ → Outcome
long_of n = if is_int64 n then gives (leaf (long n)) else Err Overflow

-- the number as a date
abbrev pub date_of : ℤ → Outcome
date_of n = if is_int64 n then gives (leaf (date n)) else Err Overflow

-- the number as an Int, where the operands allow that and it fits, else as a Long
abbrev pub whole_of : Bool → ℤ → Outcome
whole_of narrow n = if narrow && is_int32 n then gives_int n else long_of n

-- The rows of comparisons, of negation and of tests for types: they take any operands, missing ones too, and have no
-- rule for null (the manual, Comparison, Boolean and Type Expression Operators).
use Rattle.std.specs.Prelude.{ℕ, Bool, true, false, not, ℤ, pos, negsuc, List, [], ◌∷◌, Option, Some, None, codes}
use Rattle.std.specs.Ordering.{is_eq, is_ne, is_lt, is_le, is_gt, is_ge}
use Rattle.std.specs.declared.cmp.Ordering.{Ordering}
use Rattle.std.specs.declared.cmp.Ordering.TheVariants.{Less, Equal, Greater}
use Rattle.bson_value.specs.Tree.{Leaf, least, null, int, long, text, bin, id, flag, date, stamp, greatest, Tree, leaf, doc, list}
use Rattle.bson_value.specs.Order.{found_order}
use Rattle.bson_value.specs.Operands.{Outcome, wrong_count, gives_int, gives_flag, gives_text, counts}

-- `$cmp`
abbrev pub cmp_number : Ordering → ℤ
cmp_number Less = negsuc 0
cmp_number Equal = pos 0
cmp_number Greater = pos 1

abbrev pub cmp_row : List (Option Tree) → Outcome
cmp_row (a ∷ b ∷ []) = gives_int (cmp_number (found_order a b))
cmp_row _ = wrong_count

-- `$eq` to `$lte`: whether the order of the two passes a test
abbrev pub compared : (Ordering → Bool) → List (Option Tree) → Outcome
compared test (a ∷ b ∷ []) = gives_flag (test (found_order a b))
compared test _ = wrong_count

abbrev pub eq_row : List (Option Tree) → Outcome
eq_row vs = compared is_eq vs

abbrev pub ne_row : List (Option Tree) → Outcome
ne_row vs = compared is_ne vs

abbrev pub gt_row : List (Option Tree) → Outcome
gt_row vs = compared is_gt vs

abbrev pub gte_row : List (Option Tree) → Outcome
gte_row vs = compared is_ge vs

abbrev pub lt_row : List (Option Tree) → Outcome
lt_row vs = compared is_lt vs

abbrev pub lte_row : List (Option Tree) → Outcome
lte_row vs = compared is_le vs

-- `$not`
abbrev pub not_row : List (Option Tree) → Outcome
not_row (a ∷ []) = gives_flag (not (counts a))
not_row _ = wrong_count

-- `$type`: the name of a type
abbrev pub leaf_type : Leaf → List ℕ
leaf_type least = codes "minKey"
leaf_type null = codes "null"
leaf_type (int n) = codes "int"
leaf_type (long n) = codes "long"
leaf_type (text s) = codes "string"
leaf_type (bin k s) = codes "binData"
leaf_type (id s) = codes "objectId"
leaf_type (flag b) = codes "bool"
leaf_type (date n) = codes "date"
leaf_type (stamp n) = codes "timestamp"
leaf_type greatest = codes "maxKey"

abbrev pub type_name : Option Tree → List ℕ
type_name None = codes "missing"
type_name (Some (leaf l)) = leaf_type l
type_name (Some (doc ps)) = codes "object"
type_name (Some (list ts)) = codes "array"

abbrev pub type_row : List (Option Tree) → Outcome
type_row (a ∷ []) = gives_text (type_name a)
type_row _ = wrong_count

-- `$isArray`
abbrev pub is_array : Option Tree → Bool
is_array None = false
is_array (Some (leaf l)) = false
is_array (Some (doc ps)) = false
is_array (Some (list ts)) = true

abbrev pub is_array_row : List (Option Tree) → Outcome
is_array_row (a ∷ []) = gives_flag (is_array a)
is_array_row _ = wrong_count

-- `$isNumber`
abbrev pub leaf_is_number : Leaf → Bool
leaf_is_number (int n) = true
leaf_is_number (long n) = true
leaf_is_number _ = false

abbrev pub is_number : Option Tree → Bool
is_number None = false
is_number (Some (leaf l)) = leaf_is_number l
is_number (Some (doc ps)) = false
is_number (Some (list ts)) = false

abbrev pub is_number_row : List (Option Tree) → Outcome
is_number_row (a ∷ []) = gives_flag (is_number a)
is_number_row _ = wrong_count

-- The words of expressions: the operators and what each takes, the parts and units of dates, the variables that are
-- always there (the manual: Aggregation Operators, Variables in Aggregation Expressions).
use Rattle.std.specs.Prelude.{ℕ, Bool, true, false, List, [], ◌∷◌, ◌++◌, Option, Some, None, ◌==◌, ◌&&◌, ◌||◌, not, codes}
use Rattle.std.specs.Char.{is_ascii_lowercase, is_ascii_alphanumeric}
use Rattle.std.specs.List.{list_all, list_any}
use Rattle.std.specs.Str.{bytes_eq}
use Rattle.bson_value.specs.declared.op.Op.{Op}
use Rattle.bson_value.specs.declared.op.Op.TheVariants as O
use Rattle.bson_value.specs.declared.part.Part.{Part}
use Rattle.bson_value.specs.declared.part.Part.TheVariants as P
use Rattle.bson_value.specs.declared.unit.Unit.{Unit as DateUnit}
use Rattle.bson_value.specs.declared.unit.Unit.TheVariants as U
use Rattle.bson_value.specs.Pairs.{find}
use Rattle.expr_tree.specs.Node.{Head, apply, every, some, if_null}

-- operators whose operands have names: the fields of a document
pub data Shape : Type 0 where
  cases : Shape  -- `$switch`
  variables : Shape  -- `$let`
  mapped : Shape  -- `$map`
  filtered : Shape  -- `$filter`
  reduced : Shape  -- `$reduce`
  moved : Bool → Shape  -- `$dateAdd`, or `$dateSubtract`
  between : Shape  -- `$dateDiff`
  cut : Shape  -- `$dateTrunc`

-- what stands behind an operator's name
pub data Row : Type 0 where
  as_it_is : Row  -- any value, which stands for itself
  takes : Head → ℕ → Option ℕ → Row  -- operands: so many at least, and so many at most
  condition : Row  -- `$cond`
  part_of : Part → Row  -- a part of a date
  has : Shape → Row  -- operands with names

abbrev pub any_number : Op → Row
any_number o = takes (apply o) 0 None

abbrev pub at_least : ℕ → Op → Row
at_least n o = takes (apply o) n None

abbrev pub just : ℕ → Op → Row
just n o = takes (apply o) n (Some n)

abbrev pub from_to : ℕ → ℕ → Op → Row
from_to n m o = takes (apply o) n (Some m)

-- every operator, and what it takes
unfoldable pub operators : List (List ℕ × Row)
operators =
    -- numbers and comparison
    (codes "$add", any_number O.Add) ∷ (codes "$subtract", just 2 O.Subtract) ∷ (codes "$multiply", any_number O.Multiply)
    ∷ (codes "$mod", just 2 O.Mod) ∷ (codes "$abs", just 1 O.Abs) ∷ (codes "$cmp", just 2 O.Cmp) ∷ (codes "$eq", just 2 O.Eq)
    ∷ (codes "$ne", just 2 O.Ne) ∷ (codes "$gt", just 2 O.Gt) ∷ (codes "$gte", just 2 O.Gte) ∷ (codes "$lt", just 2 O.Lt) ∷ (codes "$lte", just 2 O.Lte)
    -- literals, truth, choice, variables
    ∷ (codes "$literal", as_it_is) ∷ (codes "$and", takes every 0 None) ∷ (codes "$or", takes some 0 None) ∷ (codes "$not", just 1 O.Not)
    ∷ (codes "$cond", condition) ∷ (codes "$ifNull", takes if_null 2 None) ∷ (codes "$switch", has cases) ∷ (codes "$let", has variables)
    ∷ (codes "$map", has mapped) ∷ (codes "$filter", has filtered) ∷ (codes "$reduce", has reduced)
    -- arrays and documents
    ∷ (codes "$size", just 1 O.Size) ∷ (codes "$in", just 2 O.In) ∷ (codes "$arrayElemAt", just 2 O.ArrayElemAt) ∷ (codes "$first", just 1 O.First)
    ∷ (codes "$last", just 1 O.Last) ∷ (codes "$concatArrays", any_number O.ConcatArrays) ∷ (codes "$slice", from_to 2 3 O.Slice)
    ∷ (codes "$reverseArray", just 1 O.ReverseArray) ∷ (codes "$range", from_to 2 3 O.Range) ∷ (codes "$isArray", just 1 O.IsArray)
    ∷ (codes "$setUnion", any_number O.SetUnion) ∷ (codes "$setIntersection", any_number O.SetIntersection)
    ∷ (codes "$setDifference", just 2 O.SetDifference) ∷ (codes "$setIsSubset", just 2 O.SetIsSubset) ∷ (codes "$setEquals", at_least 2 O.SetEquals)
    ∷ (codes "$arrayToObject", just 1 O.ArrayToObject) ∷ (codes "$objectToArray", just 1 O.ObjectToArray) ∷ (codes "$mergeObjects", any_number O.MergeObjects)
    -- texts and types
    ∷ (codes "$concat", any_number O.Concat) ∷ (codes "$strLenBytes", just 1 O.StrLenBytes) ∷ (codes "$strLenCP", just 1 O.StrLenCp)
    ∷ (codes "$substrCP", just 3 O.SubstrCp) ∷ (codes "$split", just 2 O.Split) ∷ (codes "$isNumber", just 1 O.IsNumber) ∷ (codes "$type", just 1 O.Type)
    ∷ (codes "$toInt", just 1 O.ToInt) ∷ (codes "$toLong", just 1 O.ToLong) ∷ (codes "$toString", just 1 O.ToString)
    -- dates
    ∷ (codes "$year", part_of P.Year) ∷ (codes "$month", part_of P.Month) ∷ (codes "$dayOfMonth", part_of P.DayOfMonth)
    ∷ (codes "$dayOfYear", part_of P.DayOfYear) ∷ (codes "$dayOfWeek", part_of P.DayOfWeek) ∷ (codes "$isoDayOfWeek", part_of P.IsoDayOfWeek)
    ∷ (codes "$isoWeek", part_of P.IsoWeek) ∷ (codes "$isoWeekYear", part_of P.IsoWeekYear) ∷ (codes "$hour", part_of P.Hour)
    ∷ (codes "$minute", part_of P.Minute) ∷ (codes "$second", part_of P.Second) ∷ (codes "$millisecond", part_of P.Millisecond)
    ∷ (codes "$dateAdd", has (moved false)) ∷ (codes "$dateSubtract", has (moved true)) ∷ (codes "$dateDiff", has between) ∷ (codes "$dateTrunc", has cut) ∷ []

unfoldable pub units : List (List ℕ × DateUnit)
units =
    (codes "year", U.Year) ∷ (codes "quarter", U.Quarter) ∷ (codes "month", U.Month) ∷ (codes "week", U.Week) ∷ (codes "day", U.Day)
    ∷ (codes "hour", U.Hour) ∷ (codes "minute", U.Minute) ∷ (codes "second", U.Second) ∷ (codes "millisecond", U.Millisecond) ∷ []

-- begins with a dollar sign
abbrev pub has_sign : List ℕ → Bool
has_sign [] = false
has_sign (b ∷ bs) = b == 36

-- a name of a document that an expression makes
abbrev pub is_field_name : List ℕ → Bool
is_field_name n = not (has_sign n) && not (list_any (λ b. b == 46) n)

-- a name that an expression binds
abbrev pub is_variable_name : List ℕ → Bool
is_variable_name [] = false
is_variable_name (b ∷ bs) = is_ascii_lowercase b && list_all (λ c. is_ascii_alphanumeric c || c == 95) bs

-- the variables that are the document, and the one that is missing
abbrev pub is_root : List ℕ → Bool
is_root x = bytes_eq x (codes "ROOT") || bytes_eq x (codes "CURRENT")

abbrev pub is_remove : List ℕ → Bool
is_remove x = bytes_eq x (codes "REMOVE")

-- the name is among those that are bound
abbrev pub is_bound : List ℕ → List (List ℕ) → Bool
is_bound x names = list_any (λ n. bytes_eq n x) names

-- what an operator of that name takes; None where there is no such operator
unfoldable pub row_named : List ℕ → Option Row
row_named n = find n operators

-- the unit of that name
unfoldable pub unit_named : List ℕ → Option DateUnit
unit_named n = find n units

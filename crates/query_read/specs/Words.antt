-- The words of queries: what joins queries, the tests of a path, and the types that `$type` knows (the manual, Query and
-- Projection Operators, `$type`; BSON 1.1, element).
use Rattle.std.specs.Prelude.{ℕ, zero, suc, ℤ, pos, negsuc, Bool, true, false, List, [], ◌∷◌, Option, Some, None, ◌==◌, if◌then◌else◌, codes}
use Rattle.bson_value.specs.Pairs.{find}
use Rattle.bson_value.specs.Tree.{Leaf, least, null, int, long, text, bin, id, flag, date, stamp, greatest, Tree, leaf, doc, list}
use Rattle.query_read.specs.declared.words.Connective.TheVariants as C
use Rattle.query_read.specs.declared.words.Operator.{Operator}
use Rattle.query_read.specs.declared.words.Operator.TheVariants as O
use Rattle.query_read.specs.declared.words.Word.{Word}
use Rattle.query_read.specs.declared.words.Word.TheVariants as W

-- names in a query document that are no paths
unfoldable pub words : List (List ℕ × Word)
words = (codes "$and", W.Joins C.And) ∷ (codes "$or", W.Joins C.Or) ∷ (codes "$nor", W.Joins C.Nor) ∷ (codes "$expr", W.Counts) ∷ []

-- the tests of what a path ends at
unfoldable pub operators : List (List ℕ × Operator)
operators =
    (codes "$eq", O.Eq) ∷ (codes "$ne", O.Ne) ∷ (codes "$gt", O.Gt) ∷ (codes "$gte", O.Gte) ∷ (codes "$lt", O.Lt) ∷ (codes "$lte", O.Lte)
    ∷ (codes "$in", O.In) ∷ (codes "$nin", O.Nin) ∷ (codes "$exists", O.Exists) ∷ (codes "$type", O.Type) ∷ (codes "$size", O.Size)
    ∷ (codes "$all", O.All) ∷ (codes "$elemMatch", O.ElemMatch) ∷ (codes "$not", O.Not) ∷ []

-- the types by their aliases, each with its number; MinKey's is that of its byte
unfoldable pub types : List (List ℕ × ℕ)
types =
    (codes "minKey", 255) ∷ (codes "string", 2) ∷ (codes "object", 3) ∷ (codes "array", 4) ∷ (codes "binData", 5) ∷ (codes "objectId", 7) ∷ (codes "bool", 8)
    ∷ (codes "date", 9) ∷ (codes "null", 10) ∷ (codes "int", 16) ∷ (codes "timestamp", 17) ∷ (codes "long", 18) ∷ (codes "maxKey", 127) ∷ []

-- the numbers of the types but MinKey
unfoldable pub type_numbers : List ℕ
type_numbers = 2 ∷ 3 ∷ 4 ∷ 5 ∷ 7 ∷ 8 ∷ 9 ∷ 10 ∷ 16 ∷ 17 ∷ 18 ∷ 127 ∷ []

unfoldable pub word_named : List ℕ → Option Word
word_named n = find n words

unfoldable pub operator_named : List ℕ → Option Operator
operator_named n = find n operators

unfoldable pub type_named : List ℕ → Option ℕ
type_named n = find n types

-- the number, where it is one of these
abbrev pub among_numbers : ℕ → List ℕ → Option ℕ
among_numbers n [] = None
among_numbers n (k ∷ ks) = if k == n then Some k else among_numbers n ks

-- the type of that number: -1 is MinKey
unfoldable pub type_numbered : ℤ → Option ℕ
type_numbered (pos n) = among_numbers n type_numbers
type_numbered (negsuc zero) = Some 255
type_numbered (negsuc (suc n)) = None

-- the type that an operand of `$type` says: an alias, or a whole number
abbrev pub type_in : Tree → Option ℕ
type_in (leaf least) = None
type_in (leaf null) = None
type_in (leaf (int n)) = type_numbered n
type_in (leaf (long n)) = type_numbered n
type_in (leaf (text s)) = type_named s
type_in (leaf (bin k s)) = None
type_in (leaf (id s)) = None
type_in (leaf (flag b)) = None
type_in (leaf (date n)) = None
type_in (leaf (stamp n)) = None
type_in (leaf greatest) = None
type_in (doc ps) = None
type_in (list ts) = None

-- MinKey and MaxKey
abbrev pub is_extreme : Tree → Bool
is_extreme (leaf least) = true
is_extreme (leaf null) = false
is_extreme (leaf (int n)) = false
is_extreme (leaf (long n)) = false
is_extreme (leaf (text s)) = false
is_extreme (leaf (bin k s)) = false
is_extreme (leaf (id s)) = false
is_extreme (leaf (flag b)) = false
is_extreme (leaf (date n)) = false
is_extreme (leaf (stamp n)) = false
is_extreme (leaf greatest) = true
is_extreme (doc ps) = false
is_extreme (list ts) = false

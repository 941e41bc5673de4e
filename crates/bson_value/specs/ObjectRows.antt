-- The rows of objects (the manual, Object Expression Operators).
use Rattle.std.specs.Prelude.{ℕ, Bool, not, ◌==◌, List, [], ◌∷◌, map, fold, length, codes, Option, Some, None, Result, Ok, Err, if◌then◌else◌}
use Rattle.std.specs.List.{list_all}
use Rattle.bson_value.specs.Tree.{Leaf, text, Tree, leaf, doc, list, pairs_of, entries, members}
use Rattle.bson_value.specs.Pairs.{find, put}
use Rattle.bson_value.specs.declared.eval_code.EvalCode.{EvalCode}
use Rattle.bson_value.specs.declared.eval_code.EvalCode.TheVariants.{WrongType, BadName}
use Rattle.bson_value.specs.Operands.{Outcome, Operand, all, row, array_in, doc_in, wrong_count, gives, gives_array}

abbrev pub Fields : Type 0
Fields = List (List ℕ × Tree)

abbrev pub gives_doc : Fields → Outcome
gives_doc ps = gives (doc (pairs_of ps))

-- fields with those of another document: a name that is there keeps its place, and another comes last
abbrev pub merged : Fields → Fields → Fields
merged ps qs = fold (λ d q. put q.0 q.1 d) ps qs

-- `$arrayToObject`: the field that an element spells, as a document of `k` and `v` or as an array of two
abbrev pub leaf_field : Leaf → Tree → Option (List ℕ × Tree)
leaf_field (text s) v = Some (s, v)
leaf_field _ v = None

abbrev pub field : Tree → Tree → Option (List ℕ × Tree)
field (leaf l) v = leaf_field l v
field (doc ps) v = None
field (list ts) v = None

abbrev pub field_of_both : Option Tree → Option Tree → Option (List ℕ × Tree)
field_of_both (Some k) (Some v) = field k v
field_of_both (Some k) None = None
field_of_both None v = None

abbrev pub doc_field : Fields → Option (List ℕ × Tree)
doc_field ps = if length ps == 2 then field_of_both (find (codes "k") ps) (find (codes "v") ps) else None

abbrev pub list_field : List Tree → Option (List ℕ × Tree)
list_field (k ∷ v ∷ []) = field k v
list_field _ = None

abbrev pub element_field : Tree → Option (List ℕ × Tree)
element_field (leaf l) = None
element_field (doc ps) = doc_field (entries ps)
element_field (list ts) = list_field (members ts)

-- no name holds a byte 0
abbrev pub named : Option (List ℕ × Tree) → Result (List ℕ × Tree) EvalCode
named None = Err WrongType
named (Some p) = if list_all (λ b. not (b == 0)) p.0 then Ok p else Err BadName

-- the first fault from the left, or all of the fields
abbrev pub field_first : Result (List ℕ × Tree) EvalCode → Result Fields EvalCode → Result Fields EvalCode
field_first (Err c) rest = Err c
field_first (Ok p) (Err c) = Err c
field_first (Ok p) (Ok ps) = Ok (p ∷ ps)

abbrev pub element_fields : List Tree → Result Fields EvalCode
element_fields [] = Ok []
element_fields (t ∷ ts) = field_first (named (element_field t)) (element_fields ts)

abbrev pub object_of : Result Fields EvalCode → Outcome
object_of (Err c) = Err c
object_of (Ok ps) = gives_doc (merged [] ps)

abbrev pub array_to_object_row : List (Option Tree) → Outcome
array_to_object_row (a ∷ []) = row (array_in a) (λ ts. object_of (element_fields ts))
array_to_object_row _ = wrong_count

-- `$objectToArray`
abbrev pub pair_object : List ℕ × Tree → Tree
pair_object p = doc (pairs_of ((codes "k", leaf (text p.0)) ∷ (codes "v", p.1) ∷ []))

abbrev pub object_to_array_row : List (Option Tree) → Outcome
object_to_array_row (d ∷ []) = row (doc_in d) (λ ps. gives_array (map pair_object ps))
object_to_array_row _ = wrong_count

-- `$mergeObjects`: null and missing count as documents without fields
abbrev pub or_no_fields : Operand Fields → Operand Fields
or_no_fields (Err c) = Err c
or_no_fields (Ok None) = Ok (Some [])
or_no_fields (Ok (Some ps)) = Ok (Some ps)

abbrev pub merge_objects_row : List (Option Tree) → Outcome
merge_objects_row vs = row (all (map (λ v. or_no_fields (doc_in v)) vs)) (λ pss. gives_doc (fold merged [] pss))

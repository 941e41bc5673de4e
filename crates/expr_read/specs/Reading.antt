-- Reading a value: the expression that it is, if it is one.
use Rattle.std.specs.Prelude.{ℕ, Bool, true, false, List, [], ◌∷◌, ◌++◌, length, drop, slice_get, nat_le, Option, Some, None, if◌then◌else◌, ◌==◌, ◌&&◌, not, codes}
use Rattle.std.specs.List.{list_all}
use Rattle.std.specs.Option.{option_and_then, option_map}
use Rattle.std.specs.Str.{is_utf8}
use Rattle.bson_value.specs.Pairs.{find}
use Rattle.bson_value.specs.Path.{pieces, some_path}
use Rattle.bson_value.specs.Paths.{Steps}
use Rattle.bson_value.specs.Tree.{Leaf, text, Tree, leaf, doc, list, Pairs, no_pairs, pair, Trees, no_trees, tree, pairs_of, trees_of}
use Rattle.bson_value.specs.declared.part.Part.{Part}
use Rattle.bson_value.specs.declared.unit.Unit.{Unit as DateUnit}
use Rattle.expr_tree.specs.Forms.{Shape, cases, variables, mapped, filtered, reduced, moved, between, cut, Row, as_it_is, takes, condition, part_of, has, row_named, unit_named, has_sign, is_field_name, is_variable_name, is_root, is_remove, is_bound}
use Rattle.expr_tree.specs.Node.{Head, literal, field, root, var, remove, make, make_list, choose, switch, bind, each, filter, reduce, date_part, date_add, date_diff, date_trunc, Node, node, no_nodes, next, nodes_of, branch_nodes, maybe_node}
use Rattle.expr_tree.specs.Spells.{Names}
use Rattle.expr_read.specs.Seen.{Seen, seen, no_parts, named_parts, listed_parts, SeenFields, no_fields, a_field, SeenItems, no_items, an_item, value_of, read_as, fields_in, items_in, listed_fields, listed_items}

infixl 10 ◌>>=◌
abbrev pub ◌>>=◌ : {A B : Type 0} → Option A → (A → Option B) → Option B
o >>= f = option_and_then f o

-- where it is so
abbrev pub only_if : {A : Type 0} → Bool → Option A → Option A
only_if b o = if b then o else None

-- a step, and the path that a text is
abbrev pub is_step : List ℕ → Bool
is_step [] = false
is_step (b ∷ bs) = is_utf8 (b ∷ bs) && not (b == 36) && list_all (λ c. not (c == 0)) (b ∷ bs)

unfoldable pub path_in : List ℕ → Option Steps
path_in s = only_if (is_utf8 s && nat_le (length (pieces s)) 100 && list_all is_step (pieces s)) (Some (pieces s))

abbrev pub single : Head → Node
single h = node h no_nodes

abbrev pub literal_of : Tree → Node
literal_of t = single (literal t)

-- a text with one sign, and one with two
abbrev pub field_reading : List ℕ → Option Node
field_reading s = path_in s >>= λ p. Some (single (field p))

abbrev pub removed : Steps → Option Node
removed [] = Some (single remove)
removed (s ∷ ss) = None

abbrev pub bound_reading : Names → Steps → Option Node
bound_reading names [] = None
bound_reading names (x ∷ ss) = only_if (is_bound x names) (Some (single (var x (some_path ss))))

abbrev pub named_reading : Names → Steps → Option Node
named_reading names [] = None
named_reading names (x ∷ ss) =
    if is_root x then Some (single (root (some_path ss))) else
    if is_remove x then removed ss else
    bound_reading names (x ∷ ss)

abbrev pub variable_reading : List ℕ → Names → Option Node
variable_reading s names = path_in s >>= named_reading names

abbrev pub sign_reading : List ℕ → Names → Option Node
sign_reading s names = if has_sign s then variable_reading (drop 1 s) names else field_reading s

abbrev pub text_reading : List ℕ → Names → Option Node
text_reading s names = if has_sign s then sign_reading (drop 1 s) names else Some (literal_of (leaf (text s)))

abbrev pub leaf_reading : Leaf → Names → Option Node
leaf_reading (text s) names = text_reading s names
leaf_reading l names = Some (literal_of (leaf l))

-- all of them, behind those that there are
abbrev pub all_from : List Node → List Seen → Names → Option (List Node)
all_from front [] names = Some front
all_from front (s ∷ ss) names = read_as s names >>= λ n. all_from (front ++ n ∷ []) ss names

-- names and expressions, behind those that there are
abbrev pub named_from : (List ℕ → Bool) → Names × List Node → List (List ℕ × Seen) → Names → Option (Names × List Node)
named_from is_name front [] names = Some front
named_from is_name front (p ∷ ps) names = only_if (is_name p.0) (read_as p.1 names >>= λ n. named_from is_name (front.0 ++ p.0 ∷ [], front.1 ++ n ∷ []) ps names)

-- the expression at that name, and at that place
abbrev pub at_name : List ℕ → List (List ℕ × Seen) → Names → Option Node
at_name n ps names = find n ps >>= λ s. read_as s names

abbrev pub at_place : ℕ → List Seen → Names → Option Node
at_place i ss names = slice_get ss i >>= λ s. read_as s names

-- expressions from parts
abbrev pub one_part : Head → Option Node → Option Node
one_part h a = a >>= λ x. Some (node h (next x no_nodes))

abbrev pub two_parts : Head → Option Node → Option Node → Option Node
two_parts h a b = a >>= λ x. b >>= λ y. Some (node h (next x (next y no_nodes)))

abbrev pub three_parts : Head → Option Node → Option Node → Option Node → Option Node
three_parts h a b c = a >>= λ x. b >>= λ y. c >>= λ z. Some (node h (next x (next y (next z no_nodes))))

-- operands: those of an array, or a bare one
abbrev pub is_one : Option ℕ → Bool
is_one None = false
is_one (Some m) = m == 1

abbrev pub is_few : Option ℕ → ℕ → Bool
is_few None n = true
is_few (Some m) n = nat_le n m

abbrev pub bare : Option Node → Option (List Node)
bare o = o >>= λ n. Some (n ∷ [])

abbrev pub operands_from : Option ℕ → Option (List Seen) → Seen → Names → Option (List Node)
operands_from most (Some ss) s names = all_from [] ss names
operands_from most None s names = only_if (is_one most) (bare (read_as s names))

abbrev pub with_operands : Head → ℕ → Option ℕ → List Node → Option Node
with_operands h least most ns = only_if (nat_le least (length ns) && is_few most (length ns)) (Some (node h (nodes_of ns)))

abbrev pub operands_reading : Head → ℕ → Option ℕ → Seen → Names → Option Node
operands_reading h least most s names = operands_from most (items_in s) s names >>= with_operands h least most

-- `$cond`
abbrev pub listed_condition : List Seen → Names → Option Node
listed_condition ss names = only_if (length ss == 3) (three_parts choose (at_place 0 ss names) (at_place 1 ss names) (at_place 2 ss names))

abbrev pub named_condition : List (List ℕ × Seen) → Names → Option Node
named_condition ps names = only_if (length ps == 3) (three_parts choose (at_name (codes "if") ps names) (at_name (codes "then") ps names) (at_name (codes "else") ps names))

abbrev pub condition_from : Option (List Seen) → Seen → Names → Option Node
condition_from (Some ss) s names = listed_condition ss names
condition_from None s names = fields_in s >>= λ ps. named_condition ps names

-- `$switch`
abbrev pub branch_parts : Option Node → Option Node → Option (Node × Node)
branch_parts a b = a >>= λ c. b >>= λ e. Some (c, e)

abbrev pub branch_in : List (List ℕ × Seen) → Names → Option (Node × Node)
branch_in ps names = only_if (length ps == 2) (branch_parts (at_name (codes "case") ps names) (at_name (codes "then") ps names))

abbrev pub branch_reading : Seen → Names → Option (Node × Node)
branch_reading s names = fields_in s >>= λ ps. branch_in ps names

abbrev pub branches_from : List (Node × Node) → List Seen → Names → Option (List (Node × Node))
branches_from front [] names = Some front
branches_from front (s ∷ ss) names = branch_reading s names >>= λ b. branches_from (front ++ b ∷ []) ss names

abbrev pub some_branches : List Seen → Names → Option (List (Node × Node))
some_branches ss names = only_if (not (length ss == 0)) (branches_from [] ss names)

abbrev pub branches_reading : Seen → Names → Option (List (Node × Node))
branches_reading s names = items_in s >>= λ ss. some_branches ss names

abbrev pub default_in : List (List ℕ × Seen) → Names → Option (Option Node)
default_in ps names = if length ps == 1 then Some None else only_if (length ps == 2) (option_map (λ n. Some n) (at_name (codes "default") ps names))

abbrev pub with_branches : Option (List (Node × Node)) → Option (Option Node) → Option Node
with_branches bs d = bs >>= λ cs. d >>= λ e. Some (node switch (branch_nodes cs (maybe_node e)))

abbrev pub branches_at : List (List ℕ × Seen) → Names → Option (List (Node × Node))
branches_at ps names = find (codes "branches") ps >>= λ s. branches_reading s names

abbrev pub cases_in : List (List ℕ × Seen) → Names → Option Node
cases_in ps names = with_branches (branches_at ps names) (default_in ps names)

-- `$let`
abbrev pub names_of : {A : Type 0} → List (List ℕ × A) → Names
names_of [] = []
names_of (p ∷ ps) = p.0 ∷ names_of ps

abbrev pub with_bindings : Option (Names × List Node) → Option Node → Option Node
with_bindings bs o = bs >>= λ b. o >>= λ n. Some (node (bind b.0) (next n (nodes_of b.1)))

abbrev pub variables_over : List (List ℕ × Seen) → List (List ℕ × Seen) → Names → Option Node
variables_over qs ps names = with_bindings (named_from is_variable_name ([], []) qs names) (at_name (codes "in") ps (names_of qs ++ names))

abbrev pub variables_in : List (List ℕ × Seen) → Names → Option Node
variables_in ps names = only_if (length ps == 2) (find (codes "vars") ps >>= λ s. fields_in s >>= λ qs. variables_over qs ps names)

-- `$map`, `$filter`, `$reduce`
abbrev pub text_of : Tree → Option (List ℕ)
text_of (leaf (text s)) = Some s
text_of t = None

abbrev pub chosen_name : List ℕ → Option (List ℕ)
chosen_name x = only_if (is_variable_name x) (Some x)

abbrev pub item_name : List (List ℕ × Seen) → Option (List ℕ)
item_name ps = if length ps == 2 then Some (codes "this") else only_if (length ps == 3) (find (codes "as") ps >>= λ s. text_of (value_of s) >>= chosen_name)

abbrev pub mapped_in : List (List ℕ × Seen) → Names → Option Node
mapped_in ps names = item_name ps >>= λ x. two_parts (each x) (at_name (codes "input") ps names) (at_name (codes "in") ps (x ∷ names))

abbrev pub filtered_in : List (List ℕ × Seen) → Names → Option Node
filtered_in ps names = item_name ps >>= λ x. two_parts (filter x) (at_name (codes "input") ps names) (at_name (codes "cond") ps (x ∷ names))

abbrev pub reduced_in : List (List ℕ × Seen) → Names → Option Node
reduced_in ps names =
    only_if (length ps == 3) (three_parts reduce (at_name (codes "input") ps names) (at_name (codes "initialValue") ps names) (at_name (codes "in") ps (codes "value" ∷ codes "this" ∷ names)))

-- dates
abbrev pub one_item : List Seen → Option Seen
one_item (s ∷ []) = Some s
one_item ss = None

abbrev pub only_date : Seen → Bool → Option Seen → Seen
only_date s b None = s
only_date s b (Some d) = if b then d else s

abbrev pub date_field : Seen → List (List ℕ × Seen) → Seen
date_field s ps = only_date s (length ps == 1) (find (codes "date") ps)

abbrev pub date_operand : Seen → Option Seen
date_operand (seen t r (listed_parts ss)) = one_item (listed_items ss)
date_operand (seen t r (named_parts fs)) = Some (date_field (seen t r (named_parts fs)) (listed_fields fs))
date_operand (seen t r no_parts) = Some (seen t r no_parts)

abbrev pub date_reading : Seen → Names → Option Node
date_reading s names = date_operand s >>= λ d. read_as d names

abbrev pub part_reading : Part → Seen → Names → Option Node
part_reading p s names = one_part (date_part p) (date_reading s names)

abbrev pub unit_in : List (List ℕ × Seen) → Option DateUnit
unit_in ps = find (codes "unit") ps >>= λ s. text_of (value_of s) >>= unit_named

abbrev pub moved_in : Bool → List (List ℕ × Seen) → Names → Option Node
moved_in back ps names = only_if (length ps == 3) (unit_in ps >>= λ u. two_parts (date_add u back) (at_name (codes "startDate") ps names) (at_name (codes "amount") ps names))

abbrev pub between_in : List (List ℕ × Seen) → Names → Option Node
between_in ps names = only_if (length ps == 3) (unit_in ps >>= λ u. two_parts (date_diff u) (at_name (codes "startDate") ps names) (at_name (codes "endDate") ps names))

abbrev pub cut_in : List (List ℕ × Seen) → Names → Option Node
cut_in ps names = only_if (length ps == 2) (unit_in ps >>= λ u. one_part (date_trunc u) (at_name (codes "date") ps names))

-- an operator over the fields of a document
abbrev pub by_shape : Shape → List (List ℕ × Seen) → Names → Option Node
by_shape cases ps names = cases_in ps names
by_shape variables ps names = variables_in ps names
by_shape mapped ps names = mapped_in ps names
by_shape filtered ps names = filtered_in ps names
by_shape reduced ps names = reduced_in ps names
by_shape (moved back) ps names = moved_in back ps names
by_shape between ps names = between_in ps names
by_shape cut ps names = cut_in ps names

abbrev pub shape_reading : Shape → Seen → Names → Option Node
shape_reading shape s names = fields_in s >>= λ ps. by_shape shape ps names

-- an operator over a value
abbrev pub by_row : Row → Seen → Names → Option Node
by_row as_it_is s names = Some (literal_of (value_of s))
by_row (takes h least most) s names = operands_reading h least most s names
by_row condition s names = condition_from (items_in s) s names
by_row (part_of p) s names = part_reading p s names
by_row (has shape) s names = shape_reading shape s names

-- a document of one operator, or of names and parts
abbrev pub with_fields : Option (Names × List Node) → Option Node
with_fields o = o >>= λ r. Some (node (make r.0) (nodes_of r.1))

abbrev pub made_reading : List (List ℕ × Seen) → Names → Option Node
made_reading ps names = with_fields (named_from is_field_name ([], []) ps names)

-- where a document is an operator: what that takes, if there is such an operator
abbrev pub operator_in : {A : Type 0} → List (List ℕ × A) → Option (Option Row)
operator_in (p ∷ []) = if has_sign p.0 then Some (row_named p.0) else None
operator_in ps = None

abbrev pub over_first : Row → List (List ℕ × Seen) → Names → Option Node
over_first row [] names = None
over_first row (p ∷ ps) names = by_row row p.1 names

abbrev pub doc_by : Option (Option Row) → List (List ℕ × Seen) → Names → Option Node
doc_by None ps names = made_reading ps names
doc_by (Some None) ps names = None
doc_by (Some (Some row)) ps names = over_first row ps names

abbrev pub doc_reading : List (List ℕ × Seen) → Names → Option Node
doc_reading ps names = doc_by (operator_in ps) ps names

abbrev pub with_items : Option (List Node) → Option Node
with_items o = o >>= λ ns. Some (node make_list (nodes_of ns))

abbrev pub list_reading : List Seen → Names → Option Node
list_reading ss names = with_items (all_from [] ss names)

-- a value with its readings
abbrev mutual
  pub seen_of : Tree → Seen
  seen_of (leaf l) = seen (leaf l) (leaf_reading l) no_parts
  seen_of (doc ps) = seen (doc ps) (doc_reading (listed_fields (seen_fields ps))) (named_parts (seen_fields ps))
  seen_of (list ts) = seen (list ts) (list_reading (listed_items (seen_items ts))) (listed_parts (seen_items ts))

  pub seen_fields : Pairs → SeenFields
  seen_fields no_pairs = no_fields
  seen_fields (pair n t ps) = a_field n (seen_of t) (seen_fields ps)

  pub seen_items : Trees → SeenItems
  seen_items no_trees = no_items
  seen_items (tree t ts) = an_item (seen_of t) (seen_items ts)

-- the expression that a value is, under the names that are bound
abbrev pub reading : Tree → Names → Option Node
reading t = read_as (seen_of t)

-- a document's fields and an array's items, with their readings
abbrev pub fields_seen : List (List ℕ × Tree) → List (List ℕ × Seen)
fields_seen ps = listed_fields (seen_fields (pairs_of ps))

abbrev pub items_seen : List Tree → List Seen
items_seen ts = listed_items (seen_items (trees_of ts))

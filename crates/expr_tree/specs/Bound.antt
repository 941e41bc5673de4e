-- How deep the value of an expression can be, over documents that are nested at most so deep. A bound that passes
-- 2^64 - 1 counts as that.
use Rattle.std.specs.Prelude.{ℕ, ◌+◌, ◌-◌, max, min, Bool, true, false, List, [], ◌∷◌, ◌++◌, map, Some, None, if◌then◌else◌}
use Rattle.bson_value.specs.Depth.{depth}
use Rattle.bson_value.specs.declared.op.Op.{Op}
use Rattle.bson_value.specs.declared.op.Op.TheVariants as O
use Rattle.expr_tree.specs.Env.{paired, last_of}
use Rattle.expr_tree.specs.Node.{Head, literal, field, root, var, remove, make, make_list, apply, every, some, choose, if_null, switch, bind, each, filter, reduce, date_part, date_add, date_diff, date_trunc, Node, node, Nodes, no_nodes, next}

-- the bound of the document, and those of the names
pub record Around : Type 0 where
  pub doc : ℕ
  pub names : List (List ℕ × ℕ)

abbrev pub around : ℕ → List (List ℕ × ℕ) → Around
around b ns = record { doc = b; names = ns }

abbrev pub with_bounds : List (List ℕ × ℕ) → Around → Around
with_bounds ns a = around a.doc (a.names ++ ns)

abbrev pub Bound : Type 0
Bound = Around → ℕ

abbrev pub no_more : ℕ → ℕ
no_more n = min n 18_446_744_073_709_551_615

abbrev pub one_more : ℕ → ℕ
one_more n = no_more (n + 1)

-- the greatest of them, and of what was found before
abbrev pub deepest_from : ℕ → List Bound → Around → ℕ
deepest_from n [] a = n
deepest_from n (m ∷ ms) a = deepest_from (max (m a) n) ms a

abbrev pub deepest : List Bound → Around → ℕ
deepest ms a = deepest_from 0 ms a

abbrev pub first_bound : List Bound → Around → ℕ
first_bound [] a = 0
first_bound (m ∷ ms) a = m a

abbrev pub choose_bound : List Bound → Around → ℕ
choose_bound (c ∷ x ∷ y ∷ []) a = max (x a) (y a)
choose_bound _ a = 0

-- the greatest of the values, and of what was found before
abbrev pub switch_from : ℕ → List Bound → Around → ℕ
switch_from n [] a = n
switch_from n (d ∷ []) a = max (d a) n
switch_from n (c ∷ m ∷ ms) a = switch_from (max (m a) n) ms a

-- the body of a `$let` sees its names with the bounds of what they are bound to
abbrev pub bind_bound : List (List ℕ) → List Bound → Around → ℕ
bind_bound ns (body ∷ ms) a = body (with_bounds (paired ns (map (λ m. m a) ms)) a)
bind_bound _ _ a = 0

-- the body of a `$map` sees its name with the bound of the input
abbrev pub each_bound : List ℕ → List Bound → Around → ℕ
each_bound x (input ∷ body ∷ []) a = one_more (body (with_bounds ((x, input a) ∷ []) a))
each_bound _ _ a = 0

-- the operators that give their first operand, a part of it or an array of such parts
abbrev pub gives_part : Op → Bool
gives_part O.ArrayElemAt = true
gives_part O.First = true
gives_part O.Last = true
gives_part O.Slice = true
gives_part O.ReverseArray = true
gives_part _ = false

-- the other operators that give an array or a document
abbrev pub gives_made : Op → Bool
gives_made O.ConcatArrays = true
gives_made O.Range = true
gives_made O.SetUnion = true
gives_made O.SetIntersection = true
gives_made O.SetDifference = true
gives_made O.ArrayToObject = true
gives_made O.ObjectToArray = true
gives_made O.MergeObjects = true
gives_made O.Split = true
gives_made _ = false

abbrev pub apply_bound : Op → List Bound → Around → ℕ
apply_bound o ms a = if gives_part o then first_bound ms a else (if gives_made o then max (one_more (deepest ms a)) 2 else 0)

abbrev pub bound_form : Head → List Bound → Around → ℕ
bound_form (literal t) ms a = no_more (depth t)
bound_form (field p) ms a = a.doc - 1
bound_form (root None) ms a = a.doc
bound_form (root (Some p)) ms a = a.doc - 1
bound_form (var x p) ms a = last_of x 0 a.names
bound_form remove ms a = 0
bound_form (make ns) ms a = one_more (deepest ms a)
bound_form make_list ms a = one_more (deepest ms a)
bound_form (apply o) ms a = apply_bound o ms a
bound_form every ms a = 0
bound_form some ms a = 0
bound_form choose ms a = choose_bound ms a
bound_form if_null ms a = deepest ms a
bound_form switch ms a = switch_from 0 ms a
bound_form (bind ns) ms a = bind_bound ns ms a
bound_form (each x) ms a = each_bound x ms a
bound_form (filter x) ms a = first_bound ms a
bound_form reduce ms a = 200
bound_form (date_part p) ms a = 0
bound_form (date_add u back) ms a = 0
bound_form (date_diff u) ms a = 0
bound_form (date_trunc u) ms a = 0

abbrev mutual
  pub bound : Node → Around → ℕ
  bound (node h ns) = bound_form h (bounds ns)

  pub bounds : Nodes → List Bound
  bounds no_nodes = []
  bounds (next n ns) = bound n ∷ bounds ns

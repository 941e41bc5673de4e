-- The tree that an expression is.
use Rattle.std.specs.Prelude.{List, map}
use Rattle.bson_value.specs.View.{tree_of}
use Rattle.expr_tree.specs.Node.{Head, literal, field, root, var, remove, make, make_list, apply, every, some, choose, if_null, switch, bind, each, filter, reduce, date_part, date_add, date_diff, date_trunc, Node, node, no_nodes, next, nodes_of, branch_nodes, maybe_node}
use Rattle.expr_tree.specs.declared.expr.Expr.{Expr}
use Rattle.expr_tree.specs.declared.expr.Expr.TheVariants as E

abbrev pub node_of : Expr → Node
node_of (E.Literal v) = node (literal (tree_of v)) no_nodes
node_of (E.Field p) = node (field p) no_nodes
node_of (E.Root p) = node (root p) no_nodes
node_of (E.Var x p) = node (var x p) no_nodes
node_of E.Remove = node remove no_nodes
node_of (E.Make fs) = node (make fs.0) (nodes_of fs.1)
node_of (E.MakeList es) = node make_list (nodes_of es)
node_of (E.Apply o es) = node (apply o) (nodes_of es)
node_of (E.And es) = node every (nodes_of es)
node_of (E.Or es) = node some (nodes_of es)
node_of (E.Cond a b c) = node choose (next a (next b (next c no_nodes)))
node_of (E.IfNull es) = node if_null (nodes_of es)
node_of (E.Switch bs d) = node switch (branch_nodes bs (maybe_node d))
node_of (E.Let bs e) = node (bind bs.0) (next e (nodes_of bs.1))
node_of (E.Map a x e) = node (each x) (next a (next e no_nodes))
node_of (E.Filter a x e) = node (filter x) (next a (next e no_nodes))
node_of (E.Reduce a b e) = node reduce (next a (next b (next e no_nodes)))
node_of (E.DatePart p e) = node (date_part p) (next e no_nodes)
node_of (E.DateAdd a u n back) = node (date_add u back) (next a (next n no_nodes))
node_of (E.DateDiff a b u) = node (date_diff u) (next a (next b no_nodes))
node_of (E.DateTrunc a u) = node (date_trunc u) (next a no_nodes)

-- branches of expressions as branches of nodes
abbrev pub branches_in : List (Expr × Expr) → List (Node × Node)
branches_in bs = map (λ b. (node_of b.0, node_of b.1)) bs

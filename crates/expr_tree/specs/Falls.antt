-- An expression that another holds is smaller.
use Rattle.std.specs.Prelude.{◌≡◌, ℕ, suc, ◌+◌, ◌≤◌, max, List, [], ◌∷◌, map, Some, None}
use Rattle.std.proofs.Common.{arith}
use denote.Param.Weighed.{most}
use Rattle.expr_tree.specs.declared.expr.Expr.{Expr}
use Rattle.expr_tree.specs.declared.expr.Expr.TheVariants as E
use Rattle.expr_tree.specs.declared.expr.Bindings.TheDeep.{deep-Expr}
use Rattle.expr_tree.specs.Node.{Node, Nodes, node_size, no_nodes, nodes_of, nodes_size, branch_nodes, maybe_node}
use Rattle.expr_tree.specs.View.{node_of, branches_in}

-- what stands behind branches counts beside them
pub branches_size : (bs : List (Node × Node)) (ns : Nodes) → nodes_size (branch_nodes bs ns) ≡ nodes_size (branch_nodes bs no_nodes) + nodes_size ns
branches_size [] ns = omega arith
branches_size (b ∷ bs) ns = omega (arith, branches_size bs ns)

pub deep_le-node_size : (e : Expr) → deep-Expr e ≤ node_size (node_of e)
deep_le-node_size (E.Literal v) = omega arith
deep_le-node_size (E.Field p) = omega arith
deep_le-node_size (E.Root p) = omega arith
deep_le-node_size (E.Var x p) = omega arith
deep_le-node_size E.Remove = omega arith
deep_le-node_size (E.Make fs) = omega arith
deep_le-node_size (E.MakeList es) = omega arith
deep_le-node_size (E.Apply o es) = omega arith
deep_le-node_size (E.And es) = omega arith
deep_le-node_size (E.Or es) = omega arith
deep_le-node_size (E.Cond a b c) = omega arith
deep_le-node_size (E.IfNull es) = omega arith
deep_le-node_size (E.Switch bs None) = omega arith
deep_le-node_size (E.Switch bs (Some d)) = omega (arith, branches_size bs (maybe_node (Some d)))
deep_le-node_size (E.Let bs e) = omega arith
deep_le-node_size (E.Map a x e) = omega arith
deep_le-node_size (E.Filter a x e) = omega arith
deep_le-node_size (E.Reduce a b e) = omega arith
deep_le-node_size (E.DatePart p e) = omega arith
deep_le-node_size (E.DateAdd a u n back) = omega arith
deep_le-node_size (E.DateDiff a b u) = omega arith
deep_le-node_size (E.DateTrunc a u) = omega arith

pub exprs_fall : (es : List Expr) → most deep-Expr es ≤ nodes_size (nodes_of (map node_of es))
exprs_fall [] = omega arith
exprs_fall (e ∷ es) = omega (arith, deep_le-node_size e, exprs_fall es)

pub branches_fall : (bs : List (Expr × Expr)) → most (λ b. max (deep-Expr b.0) (max (deep-Expr b.1) 0)) bs ≤ nodes_size (branch_nodes (branches_in bs) no_nodes)
branches_fall [] = omega arith
branches_fall (b ∷ bs) = omega (arith, deep_le-node_size b.0, deep_le-node_size b.1, branches_fall bs)

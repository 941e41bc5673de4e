-- An expression of a list is smaller than the list.
use Rattle.std.proofs.Common.{◌≡◌, ℕ, zero, suc, ◌<◌, ◌≤◌, List, [], ◌∷◌, length, map, get_or, arith}
use Rattle.std.specs.Prelude.{Option, Some}
use Rattle.expr_tree.specs.declared.expr.Expr.{Expr}
use Rattle.expr_tree.specs.Node.{Node, Nodes, node_size, nodes_of, nodes_size, branch_nodes, maybe_node}
use Rattle.expr_tree.specs.View.{node_of, branches_in}

pub size_at : (es : List Expr) (i : ℕ) (e : Expr) → i < length es → e ≡ get_or es i e → node_size (node_of e) < nodes_size (nodes_of (map node_of es))
size_at [] i e lt p = absurd (omega arith)
size_at (x ∷ es) zero e lt p = rw p (omega arith)
size_at (x ∷ es) (suc i) e lt p = omega (arith, size_at es i e (omega arith) p)

-- both parts of a branch
pub case_at : (bs : List (Expr × Expr)) (ns : Nodes) (i : ℕ) (b : Expr × Expr) → i < length bs → b ≡ get_or bs i b → node_size (node_of b.0) < nodes_size (branch_nodes (branches_in bs) ns)
case_at [] ns i b lt p = absurd (omega arith)
case_at (x ∷ bs) ns zero b lt p = rw p (omega arith)
case_at (x ∷ bs) ns (suc i) b lt p = omega (arith, case_at bs ns i b (omega arith) p)

pub value_at : (bs : List (Expr × Expr)) (ns : Nodes) (i : ℕ) (b : Expr × Expr) → i < length bs → b ≡ get_or bs i b → node_size (node_of b.1) < nodes_size (branch_nodes (branches_in bs) ns)
value_at [] ns i b lt p = absurd (omega arith)
value_at (x ∷ bs) ns zero b lt p = rw p (omega arith)
value_at (x ∷ bs) ns (suc i) b lt p = omega (arith, value_at bs ns i b (omega arith) p)

-- what stands behind the branches
pub behind_within : (bs : List (Node × Node)) (ns : Nodes) → nodes_size ns ≤ nodes_size (branch_nodes bs ns)
behind_within [] ns = omega arith
behind_within (b ∷ bs) ns = omega (arith, behind_within bs ns)

pub default_within : (d : Option Node) (n : Node) (bs : List (Node × Node)) → d ≡ Some n → node_size n < nodes_size (branch_nodes bs (maybe_node d))
default_within d n bs e = rw e (omega (arith, behind_within bs (maybe_node (Some n))))

use Rattle.std.proofs.Common.{◌≡◌, ◌+◌, ◌*◌, map, drop}
use Rattle.expr_tree.specs.Node.{node_size, nodes_of, nodes_size, branch_nodes, maybe_node}
use Rattle.expr_tree.specs.View.{node_of, branches_in}
use Rattle.expr_tree.specs.Bound.{deepest_from, switch_from, bounds, around}
use Rattle.expr_eval.specs.Bounds.{bounds_in}
use Rattle.expr_eval.proofs.bounds.+bound.Given as goal

abbrev pub decreases-bound : goal.decreases-bound
decreases-bound l = 3 * node_size (node_of l.expr.now)

abbrev pub decreases-applied : goal.decreases-applied
decreases-applied l = 3 * nodes_size (nodes_of (map node_of l.exprs.now)) + 2

abbrev pub decreases-first_of : goal.decreases-first_of
decreases-first_of l = 3 * nodes_size (nodes_of (map node_of l.exprs.now)) + 1

abbrev pub decreases-deepest_of : goal.decreases-deepest_of
decreases-deepest_of l = 3 * nodes_size (nodes_of (map node_of l.exprs.now)) + 1

abbrev pub decreases-switched : goal.decreases-switched
decreases-switched l = 3 * nodes_size (branch_nodes (branches_in l.branches.now) (maybe_node l.default.now)) + 1

abbrev pub decreases-bound_with : goal.decreases-bound_with
decreases-bound_with l = 3 * (nodes_size (nodes_of (map node_of l.exprs.now)) + node_size (node_of l.body.now)) + 1

abbrev pub invariant-deepest_of-loop-expr : goal.invariant-deepest_of-loop-expr
invariant-deepest_of-loop-expr l = deepest_from l.greatest (bounds (nodes_of (map node_of (drop l.expr-index l.exprs)))) (around l.depth (bounds_in l.scope)) ≡ deepest_from 0 (bounds (nodes_of (map node_of l.exprs))) (around l.depth (bounds_in l.scope))

abbrev pub invariant-switched-loop-branch : goal.invariant-switched-loop-branch
invariant-switched-loop-branch l = switch_from l.greatest (bounds (branch_nodes (branches_in (drop l.branch-index l.branches)) (maybe_node l.default))) (around l.depth (bounds_in l.scope)) ≡ switch_from 0 (bounds (branch_nodes (branches_in l.branches) (maybe_node l.default))) (around l.depth (bounds_in l.scope))

use Rattle.std.proofs.Common.{◌∙◌, ap, sym, arith}
use Rattle.std.specs.Prelude.{Some}
use Rattle.expr_tree.specs.Node.{maybe_node}
use Rattle.expr_tree.specs.View.{node_of, branches_in}
use Rattle.expr_eval.proofs.Sizes.{size_at, value_at, default_within}
use Rattle.expr_eval.proofs.bounds.+bound.Goals as goal

pub deepest_of-bound-requires : goal.deepest_of-bound-requires
deepest_of-bound-requires t c = (omega (arith, c.decreases, size_at c.args.exprs.now c.loop-expr.expr-index c.expr-item.result (omega arith) c.expr-item.is), tt)

pub switched-bound-requires : goal.switched-bound-requires
switched-bound-requires t c = (omega (arith, c.decreases, value_at c.args.branches.now (maybe_node c.args.default.now) c.loop-branch.branch-index c.branch-item.result (omega arith) c.branch-item.is), tt)

pub switched-bound-requires-in-Some : goal.switched-bound-requires-in-Some
switched-bound-requires-in-Some t c = (omega (arith, c.decreases, default_within c.args.default.now (node_of c.expr.result.now) (branches_in c.args.branches.now) (c.in-Some.is ∙ ap Some (sym c.expr.ensures))), tt)

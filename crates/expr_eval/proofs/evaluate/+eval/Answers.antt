use Rattle.std.proofs.Common.{◌∙◌, ap, sym, arith}
use Rattle.std.specs.Prelude.{Some}
use Rattle.std.specs.Option.{option_map}
use Rattle.std.proofs.lemmas.Result.{err_from_is_err_and}
use Rattle.bson_value.specs.View.{tree_of}
use Rattle.expr_tree.specs.Node.{maybe_node}
use Rattle.expr_tree.specs.View.{node_of, branches_in}
use Rattle.expr_tree.specs.Env.{env_of}
use Rattle.expr_tree.specs.Rows.{element_body, step}
use Rattle.expr_tree.specs.Eval.{eval}
use Rattle.expr_eval.specs.Seen.{names_in}
use Rattle.expr_eval.proofs.Loops.{each_fails, each_goes, reduce_fails, reduce_goes}
use Rattle.expr_eval.proofs.Sizes.{size_at, case_at, value_at, default_within}
use Rattle.expr_eval.proofs.evaluate.+eval.Goals as goal

pub eval_all-eval_in-requires : goal.eval_all-eval_in-requires
eval_all-eval_in-requires t c = (omega (arith, c.decreases, size_at c.args.exprs.now c.loop-expr.expr-index c.expr-item.result (omega arith) c.expr-item.is), tt)

pub eval_every-eval_in-requires : goal.eval_every-eval_in-requires
eval_every-eval_in-requires t c = (omega (arith, c.decreases, size_at c.args.exprs.now c.loop-expr.expr-index c.expr-item.result (omega arith) c.expr-item.is), tt)

pub eval_some-eval_in-requires : goal.eval_some-eval_in-requires
eval_some-eval_in-requires t c = (omega (arith, c.decreases, size_at c.args.exprs.now c.loop-expr.expr-index c.expr-item.result (omega arith) c.expr-item.is), tt)

pub eval_first-eval_in-requires : goal.eval_first-eval_in-requires
eval_first-eval_in-requires t c = (omega (arith, c.decreases, size_at c.args.exprs.now c.loop-expr.expr-index c.expr-item.result (omega arith) c.expr-item.is), tt)

pub eval_switch-eval_in-requires : goal.eval_switch-eval_in-requires
eval_switch-eval_in-requires t c = (omega (arith, c.decreases, case_at c.args.branches.now (maybe_node c.args.default.now) c.loop-branch.branch-index c.branch-item.result (omega arith) c.branch-item.is), tt)

pub eval_switch-eval_in-requires-then-counts : goal.eval_switch-eval_in-requires-then-counts
eval_switch-eval_in-requires-then-counts t c = (omega (arith, c.decreases, value_at c.args.branches.now (maybe_node c.args.default.now) c.loop-branch.branch-index c.branch-item.result (omega arith) c.branch-item.is), tt)

pub eval_switch-eval_in-requires-in-Some : goal.eval_switch-eval_in-requires-in-Some
eval_switch-eval_in-requires-in-Some t c = (omega (arith, c.decreases, default_within c.args.default.now (node_of c.expr.result.now) (branches_in c.args.branches.now) (c.in-Some.is ∙ ap Some (sym c.expr.ensures))), tt)

pub eval_each-returns-in_err-value : goal.eval_each-returns-in_err-value
eval_each-returns-in_err-value t c =
    let p = err_from_is_err_and c.from_residual.result c.from_residual.ensures.1 in rw (p.1, p.2)
    (each_fails (element_body (eval (node_of c.args.body.now)) c.args.name.now (env_of c.args.root.now (names_in c.args.scope.now))) c.args.list c.loop-i.i (tree_of c.value.result.now) (omega arith) c.value.ensures
    c.loop-i.values _ _ c.loop-i.invariant (rw c.bytes.ensures.same at c.in_err-value.ensures))

pub eval_each-loop-i-preserved : goal.eval_each-loop-i-preserved
eval_each-loop-i-preserved t c =
    rw (c.in_ok-add.ensures.ok, c.or_null.ensures)
    (each_goes (element_body (eval (node_of c.args.body.now)) c.args.name.now (env_of c.args.root.now (names_in c.args.scope.now))) c.args.list c.loop-i.i (tree_of c.value.result.now) (omega arith) c.value.ensures
    c.loop-i.values _ _ c.loop-i.invariant (rw c.bytes.ensures.same at c.in_ok-value.ensures))

pub eval_reduce-returns-in_err-value-2 : goal.eval_reduce-returns-in_err-value-2
eval_reduce-returns-in_err-value-2 t c =
    let p = err_from_is_err_and c.from_residual-in_err-value-2.result c.from_residual-in_err-value-2.ensures.1 in rw (p.1, p.2)
    (reduce_fails (step (eval (node_of c.args.body.now)) (env_of c.args.root.now (names_in c.args.scope.now))) c.args.list c.loop-i.i (tree_of c.value.result.now) (option_map tree_of c.loop-i.value) (omega arith) c.value.ensures
    _ _ c.loop-i.invariant c.in_err-value-2.ensures)

pub eval_reduce-loop-i-preserved : goal.eval_reduce-loop-i-preserved
eval_reduce-loop-i-preserved t c =
    reduce_goes (step (eval (node_of c.args.body.now)) (env_of c.args.root.now (names_in c.args.scope.now))) c.args.list c.loop-i.i (tree_of c.value.result.now) (option_map tree_of c.loop-i.value) (omega arith) c.value.ensures
    _ _ c.loop-i.invariant c.in_ok-value-2.ensures

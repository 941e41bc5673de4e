use Rattle.std.proofs.Common.{◌≡◌, ◌+◌, ◌*◌, map, drop, length, []}
use Rattle.std.specs.Option.{option_map}
use Rattle.bson_value.specs.View.{tree_of, founds}
use Rattle.expr_tree.specs.Node.{node_size, nodes_of, nodes_size, branch_nodes, maybe_node}
use Rattle.expr_tree.specs.View.{node_of, branches_in}
use Rattle.expr_tree.specs.Env.{env_of}
use Rattle.expr_tree.specs.Rows.{all, all_from, every_counts, some_counts, first_given, if_null_row, switch_row, element_body, mapped, filtered, step, reduced, reduced_from}
use Rattle.expr_tree.specs.Eval.{eval, evals, meanings}
use Rattle.expr_eval.specs.Seen.{names_in}
use Rattle.expr_eval.proofs.evaluate.+eval.Given as goal

abbrev pub decreases-eval_in : goal.decreases-eval_in
decreases-eval_in l = 4 * node_size (node_of l.expr.now)

abbrev pub decreases-make_form : goal.decreases-make_form
decreases-make_form l = 4 * nodes_size (nodes_of l.fields.now.1) + 2

abbrev pub decreases-list_form : goal.decreases-list_form
decreases-list_form l = 4 * nodes_size (nodes_of (map node_of l.exprs.now)) + 2

abbrev pub decreases-apply_form : goal.decreases-apply_form
decreases-apply_form l = 4 * nodes_size (nodes_of (map node_of l.exprs.now)) + 2

abbrev pub decreases-cond_form : goal.decreases-cond_form
decreases-cond_form l = 4 * (node_size (node_of l.test.now) + node_size (node_of l.yes.now) + node_size (node_of l.no.now)) + 1

abbrev pub decreases-map_form : goal.decreases-map_form
decreases-map_form l = 4 * (node_size (node_of l.input.now) + node_size (node_of l.body.now)) + 4

abbrev pub decreases-filter_form : goal.decreases-filter_form
decreases-filter_form l = 4 * (node_size (node_of l.input.now) + node_size (node_of l.condition.now)) + 4

abbrev pub decreases-reduce_form : goal.decreases-reduce_form
decreases-reduce_form l = 4 * (node_size (node_of l.input.now) + node_size (node_of l.initial.now) + node_size (node_of l.body.now)) + 4

abbrev pub decreases-part_form : goal.decreases-part_form
decreases-part_form l = 4 * node_size (node_of l.date.now) + 1

abbrev pub decreases-sum_form : goal.decreases-sum_form
decreases-sum_form l = 4 * (node_size (node_of l.date.now) + node_size (node_of l.amount.now)) + 1

abbrev pub decreases-diff_form : goal.decreases-diff_form
decreases-diff_form l = 4 * (node_size (node_of l.first.now) + node_size (node_of l.second.now)) + 1

abbrev pub decreases-trunc_form : goal.decreases-trunc_form
decreases-trunc_form l = 4 * node_size (node_of l.date.now) + 1

abbrev pub decreases-eval_all : goal.decreases-eval_all
decreases-eval_all l = 4 * nodes_size (nodes_of (map node_of l.exprs.now)) + 1

abbrev pub decreases-eval_every : goal.decreases-eval_every
decreases-eval_every l = 4 * nodes_size (nodes_of (map node_of l.exprs.now)) + 1

abbrev pub decreases-eval_some : goal.decreases-eval_some
decreases-eval_some l = 4 * nodes_size (nodes_of (map node_of l.exprs.now)) + 1

abbrev pub decreases-eval_first : goal.decreases-eval_first
decreases-eval_first l = 4 * nodes_size (nodes_of (map node_of l.exprs.now)) + 1

abbrev pub decreases-eval_switch : goal.decreases-eval_switch
decreases-eval_switch l = 4 * nodes_size (branch_nodes (branches_in l.branches.now) (maybe_node l.default.now)) + 1

abbrev pub decreases-eval_let : goal.decreases-eval_let
decreases-eval_let l = 4 * (node_size (node_of l.body.now) + nodes_size (nodes_of l.bindings.now.1)) + 2

abbrev pub decreases-eval_each : goal.decreases-eval_each
decreases-eval_each l = 4 * node_size (node_of l.body.now) + 1

abbrev pub decreases-eval_filter : goal.decreases-eval_filter
decreases-eval_filter l = 4 * node_size (node_of l.condition.now) + 2

abbrev pub decreases-eval_element : goal.decreases-eval_element
decreases-eval_element l = 4 * node_size (node_of l.body.now) + 1

abbrev pub decreases-eval_reduce : goal.decreases-eval_reduce
decreases-eval_reduce l = 4 * node_size (node_of l.body.now) + 2

abbrev pub decreases-eval_step : goal.decreases-eval_step
decreases-eval_step l = 4 * node_size (node_of l.body.now) + 1

abbrev pub invariant-eval_all-loop-expr : goal.invariant-eval_all-loop-expr
invariant-eval_all-loop-expr l = all_from (founds l.values.items) (meanings (map node_of (drop l.expr-index l.exprs))) (env_of l.root (names_in l.scope)) ≡ all (meanings (map node_of l.exprs)) (env_of l.root (names_in l.scope))

abbrev pub invariant-eval_every-loop-expr : goal.invariant-eval_every-loop-expr
invariant-eval_every-loop-expr l = every_counts (meanings (map node_of (drop l.expr-index l.exprs))) (env_of l.root (names_in l.scope)) ≡ every_counts (meanings (map node_of l.exprs)) (env_of l.root (names_in l.scope))

abbrev pub invariant-eval_some-loop-expr : goal.invariant-eval_some-loop-expr
invariant-eval_some-loop-expr l = some_counts (meanings (map node_of (drop l.expr-index l.exprs))) (env_of l.root (names_in l.scope)) ≡ some_counts (meanings (map node_of l.exprs)) (env_of l.root (names_in l.scope))

abbrev pub invariant-eval_first-loop-expr : goal.invariant-eval_first-loop-expr
invariant-eval_first-loop-expr l = first_given (option_map tree_of l.found) (meanings (map node_of (drop l.expr-index l.exprs))) (env_of l.root (names_in l.scope)) ≡ if_null_row (meanings (map node_of l.exprs)) (env_of l.root (names_in l.scope))

abbrev pub invariant-eval_switch-loop-branch : goal.invariant-eval_switch-loop-branch
invariant-eval_switch-loop-branch l = switch_row (evals (branch_nodes (branches_in (drop l.branch-index l.branches)) (maybe_node l.default))) (env_of l.root (names_in l.scope)) ≡ switch_row (evals (branch_nodes (branches_in l.branches) (maybe_node l.default))) (env_of l.root (names_in l.scope))

abbrev pub invariant-eval_each-loop-i : goal.invariant-eval_each-loop-i
invariant-eval_each-loop-i l = mapped (element_body (eval (node_of l.body)) l.name (env_of l.root (names_in l.scope))) l.values (drop l.i l.fn.list) ≡ mapped (element_body (eval (node_of l.body)) l.name (env_of l.root (names_in l.scope))) [] l.fn.list

abbrev pub invariant-eval_filter-loop-item : goal.invariant-eval_filter-loop-item
invariant-eval_filter-loop-item l = filtered (element_body (eval (node_of l.condition)) l.name (env_of l.root (names_in l.scope))) l.kept l.items ≡ filtered (element_body (eval (node_of l.condition)) l.name (env_of l.root (names_in l.scope))) [] l.fn.list

abbrev pub decreases-eval_filter-loop-item : goal.decreases-eval_filter-loop-item
decreases-eval_filter-loop-item l = length l.items

abbrev pub invariant-eval_reduce-loop-i : goal.invariant-eval_reduce-loop-i
invariant-eval_reduce-loop-i l = reduced (step (eval (node_of l.body)) (env_of l.root (names_in l.scope))) (option_map tree_of l.value) (drop l.i l.fn.list) ≡ reduced_from (step (eval (node_of l.body)) (env_of l.root (names_in l.scope))) (option_map tree_of l.fn.initial) l.fn.list

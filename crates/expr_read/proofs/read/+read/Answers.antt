use Rattle.std.proofs.Common.{arith}
use Rattle.std.proofs.lemmas.Result.{err_from_is_err_and}
use Rattle.bson_value.specs.View.{tree_of}
use Rattle.expr_tree.specs.Forms.{is_field_name, is_variable_name}
use Rattle.expr_read.specs.Rows.{row_of}
use Rattle.expr_read.specs.Scopes.{names_in}
use Rattle.expr_read.proofs.Steps.{item_size, field_size, all_fails, all_goes, branches_fail, branches_go, named_bad, named_fails, named_goes, operator_same}
use Rattle.expr_read.proofs.read.+read.Goals as goal

pub read_items-read_value-requires : goal.read_items-read_value-requires
read_items-read_value-requires t c = (omega (arith, c.decreases, item_size c.args.list.now c.loop-i.i (tree_of c.value.result.now) c.value.ensures), tt)

pub read_items-returns-in_err-expr : goal.read_items-returns-in_err-expr
read_items-returns-in_err-expr t c =
    let p = err_from_is_err_and c.from_residual.result c.from_residual.ensures.1 in rw (p.1, p.2)
    (all_fails c.args.list.now c.loop-i.i (tree_of c.value.result.now) _ c.value.ensures c.loop-i.exprs _ c.loop-i.invariant _ c.in_err-expr.ensures)

pub read_items-loop-i-preserved : goal.read_items-loop-i-preserved
read_items-loop-i-preserved t c = rw c.in_ok-add.ensures.ok (all_goes c.args.list.now c.loop-i.i (tree_of c.value.result.now) _ c.value.ensures c.loop-i.exprs _ c.loop-i.invariant _ c.in_ok-expr.ensures)

pub read_branches-read_branch-requires : goal.read_branches-read_branch-requires
read_branches-read_branch-requires t c = (omega (arith, c.decreases, item_size c.args.list.now c.loop-i.i (tree_of c.value.result.now) c.value.ensures), tt)

pub read_branches-returns-in_err-case : goal.read_branches-returns-in_err-case
read_branches-returns-in_err-case t c =
    let p = err_from_is_err_and c.from_residual.result c.from_residual.ensures.1 in rw (p.1, p.2)
    (branches_fail c.args.list.now c.loop-i.i (tree_of c.value.result.now) _ c.value.ensures c.loop-i.branches _ c.loop-i.invariant _ c.in_err-case.ensures)

pub read_branches-loop-i-preserved : goal.read_branches-loop-i-preserved
read_branches-loop-i-preserved t c = rw c.in_ok-add.ensures.ok (branches_go c.args.list.now c.loop-i.i (tree_of c.value.result.now) _ c.value.ensures c.loop-i.branches _ c.loop-i.invariant _ c.in_ok-case.ensures)

pub read_doc-read_row-requires : goal.read_doc-read_row-requires
read_doc-read_row-requires t c = (omega (arith, c.decreases, field_size c.args.doc.now 0 (tree_of c.value.result.now) c.value.ensures), tt)

pub read_doc-returns-in-Some-Some : goal.read_doc-returns-in-Some-Some
read_doc-returns-in-Some-Some t c = rw (← operator_same c.args.doc.now (row_of c.in-Some-Some.row) (tree_of c.value.result.now) (names_in c.args.scope.now) (rw c.in-Some-Some.field-0-is at c.in-Some-Some.ensures.row) c.value.ensures) c.read_row.ensures

pub read_fields-returns-in_err-name : goal.read_fields-returns-in_err-name
read_fields-returns-in_err-name t c =
    let p = err_from_is_err_and c.from_residual.result c.from_residual.ensures.1 in rw (p.1, p.2)
    (named_bad is_field_name c.args.doc.now c.loop-i.i c.name-bytes.result.now (tree_of c.value-value.result.now) (names_in c.args.scope.now) c.name-bytes.ensures c.value-value.ensures c.loop-i.fields _ c.loop-i.invariant _ c.in_err-name.ensures)

pub read_fields-read_value-requires : goal.read_fields-read_value-requires
read_fields-read_value-requires t c = (omega (arith, c.decreases, field_size c.args.doc.now c.loop-i.i (tree_of c.value-value.result.now) c.value-value.ensures), tt)

pub read_fields-returns-in_err-expr : goal.read_fields-returns-in_err-expr
read_fields-returns-in_err-expr t c =
    let p = err_from_is_err_and c.from_residual-in_err-expr.result c.from_residual-in_err-expr.ensures.1 in rw (p.1, p.2)
    (named_fails is_field_name c.args.doc.now c.loop-i.i c.name-bytes.result.now (tree_of c.value-value.result.now) (names_in c.args.scope.now) c.name-bytes.ensures c.value-value.ensures c.loop-i.fields _ c.loop-i.invariant _ c.in_ok-name.ensures _ c.in_err-expr.ensures)

pub read_fields-loop-i-preserved : goal.read_fields-loop-i-preserved
read_fields-loop-i-preserved t c =
    rw c.in_ok-add.ensures.ok
    (named_goes is_field_name c.args.doc.now c.loop-i.i c.name-bytes.result.now (tree_of c.value-value.result.now) (names_in c.args.scope.now) c.name-bytes.ensures c.value-value.ensures c.loop-i.fields _ c.loop-i.invariant _ c.in_ok-name.ensures _ c.in_ok-expr.ensures)

pub read_bindings-returns-in_err-name : goal.read_bindings-returns-in_err-name
read_bindings-returns-in_err-name t c =
    let p = err_from_is_err_and c.from_residual.result c.from_residual.ensures.1 in rw (p.1, p.2)
    (named_bad is_variable_name c.args.doc.now c.loop-i.i c.name-bytes.result.now (tree_of c.value-value.result.now) (names_in c.args.scope.now) c.name-bytes.ensures c.value-value.ensures c.loop-i.bindings _ c.loop-i.invariant _ c.in_err-name.ensures)

pub read_bindings-read_value-requires : goal.read_bindings-read_value-requires
read_bindings-read_value-requires t c = (omega (arith, c.decreases, field_size c.args.doc.now c.loop-i.i (tree_of c.value-value.result.now) c.value-value.ensures), tt)

pub read_bindings-returns-in_err-expr : goal.read_bindings-returns-in_err-expr
read_bindings-returns-in_err-expr t c =
    let p = err_from_is_err_and c.from_residual-in_err-expr.result c.from_residual-in_err-expr.ensures.1 in rw (p.1, p.2)
    (named_fails is_variable_name c.args.doc.now c.loop-i.i c.name-bytes.result.now (tree_of c.value-value.result.now) (names_in c.args.scope.now) c.name-bytes.ensures c.value-value.ensures c.loop-i.bindings _ c.loop-i.invariant _ c.in_ok-name.ensures _ c.in_err-expr.ensures)

pub read_bindings-loop-i-preserved : goal.read_bindings-loop-i-preserved
read_bindings-loop-i-preserved t c =
    rw c.in_ok-add.ensures.ok
    (named_goes is_variable_name c.args.doc.now c.loop-i.i c.name-bytes.result.now (tree_of c.value-value.result.now) (names_in c.args.scope.now) c.name-bytes.ensures c.value-value.ensures c.loop-i.bindings _ c.loop-i.invariant _ c.in_ok-name.ensures _ c.in_ok-expr.ensures)

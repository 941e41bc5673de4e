use Rattle.std.proofs.Common.{arith}
use Rattle.std.proofs.lemmas.Result.{err_from_is_err_and}
use Rattle.bson_value.specs.View.{tree_of}
use Rattle.query_read.specs.Reading.{at_path, itself}
use Rattle.query_read.proofs.Steps.{item_size, field_size, parts_fail, parts_go, tests_fail, tests_go, queries_fail, queries_go}
use Rattle.query_read.proofs.read.+read.Goals as goal

pub read_parts-read_part-requires : goal.read_parts-read_part-requires
read_parts-read_part-requires t c = (omega (arith, c.decreases, field_size c.args.doc.now c.loop-i.i (tree_of c.value-value.result.now) c.value-value.ensures), tt)

pub read_parts-returns-in_err-parts : goal.read_parts-returns-in_err-parts
read_parts-returns-in_err-parts t c =
    let p = err_from_is_err_and c.from_residual.result c.from_residual.ensures.1 in rw (p.1, p.2)
    (parts_fail c.args.exprs c.args.doc.now c.loop-i.i c.name-name.result.now (tree_of c.value-value.result.now) (c.name-name.ensures, c.value-value.ensures) c.loop-i.parts _ c.loop-i.invariant _ c.in_err-parts.ensures)

pub read_parts-loop-i-preserved : goal.read_parts-loop-i-preserved
read_parts-loop-i-preserved t c = parts_go c.args.exprs c.args.doc.now c.loop-i.i c.name-name.result.now (tree_of c.value-value.result.now) (c.name-name.ensures, c.value-value.ensures) c.loop-i.parts _ c.loop-i.invariant _ c.in_ok-parts.ensures

pub read_operators-read_test-requires : goal.read_operators-read_test-requires
read_operators-read_test-requires t c = (omega (arith, c.decreases, field_size c.args.doc.now c.loop-i.i (tree_of c.value-value.result.now) c.value-value.ensures), tt)

pub read_operators-returns-in_err-test : goal.read_operators-returns-in_err-test
read_operators-returns-in_err-test t c =
    let p = err_from_is_err_and c.from_residual.result c.from_residual.ensures.1 in rw (p.1, p.2)
    (tests_fail (at_path c.args.path.now) c.args.doc.now c.loop-i.i c.name-name.result.now (tree_of c.value-value.result.now) (c.name-name.ensures, c.value-value.ensures) c.loop-i.parts _ c.loop-i.invariant _ c.in_err-test.ensures)

pub read_operators-loop-i-preserved : goal.read_operators-loop-i-preserved
read_operators-loop-i-preserved t c =
    rw (c.in_ok-add.ensures.ok, c.in_ok-steps.ensures)
    (tests_go (at_path c.args.path.now) c.args.doc.now c.loop-i.i c.name-name.result.now (tree_of c.value-value.result.now) (c.name-name.ensures, c.value-value.ensures) c.loop-i.parts _ c.loop-i.invariant _ c.in_ok-test.ensures)

pub read_tests-read_test-requires : goal.read_tests-read_test-requires
read_tests-read_test-requires t c = (omega (arith, c.decreases, field_size c.args.doc.now c.loop-i.i (tree_of c.value-value.result.now) c.value-value.ensures), tt)

pub read_tests-returns-in_err-test : goal.read_tests-returns-in_err-test
read_tests-returns-in_err-test t c =
    let p = err_from_is_err_and c.from_residual.result c.from_residual.ensures.1 in rw (p.1, p.2)
    (tests_fail itself c.args.doc.now c.loop-i.i c.name-name.result.now (tree_of c.value-value.result.now) (c.name-name.ensures, c.value-value.ensures) c.loop-i.tests _ c.loop-i.invariant _ c.in_err-test.ensures)

pub read_tests-loop-i-preserved : goal.read_tests-loop-i-preserved
read_tests-loop-i-preserved t c =
    rw c.in_ok-add.ensures.ok
    (tests_go itself c.args.doc.now c.loop-i.i c.name-name.result.now (tree_of c.value-value.result.now) (c.name-name.ensures, c.value-value.ensures) c.loop-i.tests _ c.loop-i.invariant _ c.in_ok-test.ensures)

pub read_queries-read_item-requires : goal.read_queries-read_item-requires
read_queries-read_item-requires t c = (omega (arith, c.decreases, item_size c.args.list.now c.loop-i.i (tree_of c.value.result.now) c.value.ensures), tt)

pub read_queries-returns-in_err-query : goal.read_queries-returns-in_err-query
read_queries-returns-in_err-query t c =
    let p = err_from_is_err_and c.from_residual.result c.from_residual.ensures.1 in rw (p.1, p.2)
    (queries_fail c.args.exprs c.args.list.now c.loop-i.i (tree_of c.value.result.now) c.value.ensures c.loop-i.queries _ c.loop-i.invariant _ c.in_err-query.ensures)

pub read_queries-loop-i-preserved : goal.read_queries-loop-i-preserved
read_queries-loop-i-preserved t c =
    rw c.in_ok-add.ensures.ok
    (queries_go c.args.exprs c.args.list.now c.loop-i.i (tree_of c.value.result.now) c.value.ensures c.loop-i.queries _ c.loop-i.invariant _ c.in_ok-query.ensures)

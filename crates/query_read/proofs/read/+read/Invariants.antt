use Rattle.std.proofs.Common.{◌≡◌, ◌+◌, ◌*◌, drop, []}
use Rattle.bson_value.specs.Tree.{tree_size, pairs_of, pairs_size, trees_of, trees_size}
use Rattle.bson_value.specs.View.{tree_of}
use Rattle.query_read.specs.Reading.{at_path, itself, parts_from, queries_from, tests_from}
use Rattle.query_read.proofs.read.+read.Given as goal

abbrev pub decreases-read_doc : goal.decreases-read_doc
decreases-read_doc l = 8 * pairs_size (pairs_of l.doc.now) + 2

abbrev pub decreases-read_parts : goal.decreases-read_parts
decreases-read_parts l = 8 * pairs_size (pairs_of l.doc.now) + 1

abbrev pub decreases-read_part : goal.decreases-read_part
decreases-read_part l = 8 * tree_size (tree_of l.value.now) + 5

abbrev pub decreases-read_value : goal.decreases-read_value
decreases-read_value l = 8 * tree_size (tree_of l.value.now) + 4

abbrev pub decreases-read_operators : goal.decreases-read_operators
decreases-read_operators l = 8 * pairs_size (pairs_of l.doc.now) + 1

abbrev pub decreases-read_array : goal.decreases-read_array
decreases-read_array l = 8 * tree_size (tree_of l.value.now) + 4

abbrev pub decreases-read_queries : goal.decreases-read_queries
decreases-read_queries l = 8 * trees_size (trees_of l.list.now) + 1

abbrev pub decreases-read_item : goal.decreases-read_item
decreases-read_item l = 8 * tree_size (tree_of l.value.now) + 3

abbrev pub decreases-read_test : goal.decreases-read_test
decreases-read_test l = 8 * tree_size (tree_of l.value.now) + 5

abbrev pub decreases-read_element : goal.decreases-read_element
decreases-read_element l = 8 * tree_size (tree_of l.value.now) + 4

abbrev pub decreases-read_elements : goal.decreases-read_elements
decreases-read_elements l = 8 * pairs_size (pairs_of l.doc.now) + 3

abbrev pub decreases-read_not : goal.decreases-read_not
decreases-read_not l = 8 * tree_size (tree_of l.value.now) + 4

abbrev pub decreases-read_tests : goal.decreases-read_tests
decreases-read_tests l = 8 * pairs_size (pairs_of l.doc.now) + 1

abbrev pub invariant-read_parts-loop-i : goal.invariant-read_parts-loop-i
invariant-read_parts-loop-i l = parts_from l.exprs l.parts (pairs_of (drop l.i l.doc)) ≡ parts_from l.exprs [] (pairs_of l.doc)

abbrev pub invariant-read_operators-loop-i : goal.invariant-read_operators-loop-i
invariant-read_operators-loop-i l = tests_from (at_path l.path) l.parts (pairs_of (drop l.i l.doc)) ≡ tests_from (at_path l.path) l.fn.front (pairs_of l.doc)

abbrev pub invariant-read_queries-loop-i : goal.invariant-read_queries-loop-i
invariant-read_queries-loop-i l = queries_from l.exprs l.queries (trees_of (drop l.i l.list)) ≡ queries_from l.exprs [] (trees_of l.list)

abbrev pub invariant-read_tests-loop-i : goal.invariant-read_tests-loop-i
invariant-read_tests-loop-i l = tests_from itself l.tests (pairs_of (drop l.i l.doc)) ≡ tests_from itself [] (pairs_of l.doc)

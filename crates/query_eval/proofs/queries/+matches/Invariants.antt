use Rattle.std.proofs.Common.{◌≡◌, ◌+◌, ◌*◌, map, drop}
use Rattle.expr_tree.specs.QueryNode.{query_size, queries_of, queries_size}
use Rattle.expr_tree.specs.QueryView.{query_of, test_of}
use Rattle.expr_tree.specs.Holds.{document, holding_of, each_holds, some_holds, some_element}
use Rattle.query_eval.specs.Places.{seen_at}
use Rattle.query_eval.specs.Elements.{element_passes, some_end_element}
use Rattle.query_eval.proofs.Sizes.{element_size}
use Rattle.query_eval.proofs.queries.+matches.Given as goal

abbrev pub decreases-matches : goal.decreases-matches
decreases-matches l = 9 * query_size (query_of l.query.now)

abbrev pub decreases-every_matches : goal.decreases-every_matches
decreases-every_matches l = 9 * queries_size (queries_of (map query_of l.queries.now)) + 1

abbrev pub decreases-some_matches : goal.decreases-some_matches
decreases-some_matches l = 9 * queries_size (queries_of (map query_of l.queries.now)) + 1

abbrev pub decreases-tested : goal.decreases-tested
decreases-tested l = 9 * query_size (test_of l.test.now)

abbrev pub decreases-every_tested : goal.decreases-every_tested
decreases-every_tested l = 9 * queries_size (queries_of (map test_of l.tests.now)) + 1

abbrev pub decreases-some_element : goal.decreases-some_element
decreases-some_element l = 9 * element_size l.test + 8

abbrev pub decreases-element_at_ends : goal.decreases-element_at_ends
decreases-element_at_ends l = 9 * element_size l.test + 7

abbrev pub decreases-element_found : goal.decreases-element_found
decreases-element_found l = 9 * element_size l.test + 6

abbrev pub decreases-element_in : goal.decreases-element_in
decreases-element_in l = 9 * element_size l.test + 5

abbrev pub decreases-element_within : goal.decreases-element_within
decreases-element_within l = 9 * element_size l.test + 4

abbrev pub decreases-element_of : goal.decreases-element_of
decreases-element_of l = 9 * element_size l.test + 3

abbrev pub decreases-element_passes : goal.decreases-element_passes
decreases-element_passes l = 9 * element_size l.test + 2

abbrev pub invariant-every_matches-loop-query : goal.invariant-every_matches-loop-query
invariant-every_matches-loop-query l = each_holds (holding_of (map query_of (drop l.query-index l.queries))) (document l.doc) ≡ each_holds (holding_of (map query_of l.queries)) (document l.doc)

abbrev pub invariant-some_matches-loop-query : goal.invariant-some_matches-loop-query
invariant-some_matches-loop-query l = some_holds (holding_of (map query_of (drop l.query-index l.queries))) (document l.doc) ≡ some_holds (holding_of (map query_of l.queries)) (document l.doc)

abbrev pub invariant-every_tested-loop-test : goal.invariant-every_tested-loop-test
invariant-every_tested-loop-test l = each_holds (holding_of (map test_of (drop l.test-index l.tests))) (seen_at l.place) ≡ each_holds (holding_of (map test_of l.tests)) (seen_at l.place)

abbrev pub invariant-element_found-loop-i : goal.invariant-element_found-loop-i
invariant-element_found-loop-i l = some_end_element (element_passes l.test) (drop l.i l.found) ≡ some_end_element (element_passes l.test) l.found

abbrev pub invariant-element_of-loop-i : goal.invariant-element_of-loop-i
invariant-element_of-loop-i l = some_element (element_passes l.test) (drop l.i l.list) ≡ some_element (element_passes l.test) l.list

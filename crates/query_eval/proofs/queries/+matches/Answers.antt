use Rattle.std.proofs.Common.{arith}
use Rattle.bson_value.proofs.Distinct.{members_trees, entries_pairs}
use Rattle.query_eval.proofs.Sizes.{query_at, test_at}
use Rattle.query_eval.specs.Elements.{element_passes}
use Rattle.query_eval.proofs.Found.{end_by_end}
use Rattle.query_eval.proofs.queries.+matches.Goals as goal

pub every_matches-matches-requires : goal.every_matches-matches-requires
every_matches-matches-requires t c = (omega (arith, c.decreases, query_at c.args.queries.now c.loop-query.query-index c.query-item.result (omega arith) c.query-item.is), tt)

pub some_matches-matches-requires : goal.some_matches-matches-requires
some_matches-matches-requires t c = (omega (arith, c.decreases, query_at c.args.queries.now c.loop-query.query-index c.query-item.result (omega arith) c.query-item.is), tt)

pub every_tested-tested-requires : goal.every_tested-tested-requires
every_tested-tested-requires t c = (omega (arith, c.decreases, test_at c.args.tests.now c.loop-test.test-index c.test-item.result (omega arith) c.test-item.is), tt)

pub element_within-returns-in-List : goal.element_within-returns-in-List
element_within-returns-in-List t c = rw (c.in-List.is, members_trees c.in-List.list) c.element_of.ensures

pub element_passes-returns-in-Doc : goal.element_passes-returns-in-Doc
element_passes-returns-in-Doc t c = rw (c.in-Query.is, c.in-Doc.is, entries_pairs c.in-Doc.doc) c.matches.ensures

pub element_at_ends-returns : goal.element_at_ends-returns
element_at_ends-returns t c = rw (← end_by_end (element_passes c.args.test) c.args.found.now) c.element_found.ensures

pub tested-returns-in-Elem : goal.tested-returns-in-Elem
tested-returns-in-Elem t c = rw (c.in-Elem.is, ← c.query.ensures) c.some_element.ensures

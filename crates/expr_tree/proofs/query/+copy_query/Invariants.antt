use Rattle.std.proofs.Common.{◌≡◌, take}
use Rattle.expr_tree.proofs.query.+copy_query.Given as goal

abbrev pub invariant-Queries::copy-loop-query : goal.invariant-Queries::copy-loop-query
invariant-Queries::copy-loop-query l = l.queries.items ≡ take l.query-index l.query-items

abbrev pub invariant-Tests::copy-loop-test : goal.invariant-Tests::copy-loop-test
invariant-Tests::copy-loop-test l = l.tests.items ≡ take l.test-index l.test-items

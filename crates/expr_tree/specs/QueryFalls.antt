-- A query or a test that another holds is smaller.
use Rattle.std.specs.Prelude.{ℕ, suc, ◌+◌, ◌≤◌, max, List, [], ◌∷◌, map}
use Rattle.std.proofs.Common.{arith}
use denote.Param.Weighed.{most}
use Rattle.expr_tree.specs.declared.query.Query.{Query}
use Rattle.expr_tree.specs.declared.query.Query.TheVariants as Q
use Rattle.expr_tree.specs.declared.query.Test.{Test}
use Rattle.expr_tree.specs.declared.query.Test.TheVariants as T
use Rattle.expr_tree.specs.declared.query.Queries.TheDeep.{deep-Query, deep-Test}
use Rattle.expr_tree.specs.QueryNode.{query_size, queries_of, queries_size}
use Rattle.expr_tree.specs.QueryView.{query_of, test_of}

pub test_deep : (t : Test) → deep-Test t ≤ query_size (test_of t)
test_deep (T.Eq v) = omega arith
test_deep (T.Ne v) = omega arith
test_deep (T.Gt v) = omega arith
test_deep (T.Gte v) = omega arith
test_deep (T.Lt v) = omega arith
test_deep (T.Lte v) = omega arith
test_deep (T.Among vs) = omega arith
test_deep (T.NotAmong vs) = omega arith
test_deep (T.Exists b) = omega arith
test_deep (T.Kind n) = omega arith
test_deep (T.Size n) = omega arith
test_deep (T.All vs) = omega arith
test_deep (T.Elem q) = omega arith
test_deep (T.ElemTests ts) = omega arith
test_deep (T.Not ts) = omega arith

pub query_deep : (q : Query) → deep-Query q ≤ query_size (query_of q)
query_deep (Q.And qs) = omega arith
query_deep (Q.Or qs) = omega arith
query_deep (Q.Nor qs) = omega arith
query_deep (Q.Test p t) = omega (arith, test_deep t)
query_deep (Q.Expr e) = omega arith

pub queries_fall : (qs : List Query) → most deep-Query qs ≤ queries_size (queries_of (map query_of qs))
queries_fall [] = omega arith
queries_fall (q ∷ qs) = omega (arith, query_deep q, queries_fall qs)

pub tests_fall : (ts : List Test) → most deep-Test ts ≤ queries_size (queries_of (map test_of ts))
tests_fall [] = omega arith
tests_fall (t ∷ ts) = omega (arith, test_deep t, tests_fall ts)

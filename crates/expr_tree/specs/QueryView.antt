-- The tree that a query or a test is.
use Rattle.std.specs.Prelude.{List}
use Rattle.bson_value.specs.View.{tree_of}
use Rattle.expr_tree.specs.View.{node_of}
use Rattle.expr_tree.specs.QueryNode.{equal, greater, greater_or_equal, less, less_or_equal, every, some, none, at, counts, compares, differs, among, not_among, exists, kind, size, all, element, element_tests, not_all, QueryNode, query, no_queries, more, queries_of}
use Rattle.expr_tree.specs.declared.query.Query.{Query}
use Rattle.expr_tree.specs.declared.query.Query.TheVariants as Q
use Rattle.expr_tree.specs.declared.query.Test.{Test}
use Rattle.expr_tree.specs.declared.query.Test.TheVariants as T

abbrev pub test_of : Test → QueryNode
test_of (T.Eq v) = query (compares equal (tree_of v)) no_queries
test_of (T.Ne v) = query (differs (tree_of v)) no_queries
test_of (T.Gt v) = query (compares greater (tree_of v)) no_queries
test_of (T.Gte v) = query (compares greater_or_equal (tree_of v)) no_queries
test_of (T.Lt v) = query (compares less (tree_of v)) no_queries
test_of (T.Lte v) = query (compares less_or_equal (tree_of v)) no_queries
test_of (T.Among vs) = query (among vs) no_queries
test_of (T.NotAmong vs) = query (not_among vs) no_queries
test_of (T.Exists b) = query (exists b) no_queries
test_of (T.Kind n) = query (kind n) no_queries
test_of (T.Size n) = query (size n) no_queries
test_of (T.All vs) = query (all vs) no_queries
test_of (T.Elem q) = query element (more q no_queries)
test_of (T.ElemTests ts) = query element_tests (queries_of ts)
test_of (T.Not ts) = query not_all (queries_of ts)

abbrev pub query_of : Query → QueryNode
query_of (Q.And qs) = query every (queries_of qs)
query_of (Q.Or qs) = query some (queries_of qs)
query_of (Q.Nor qs) = query none (queries_of qs)
query_of (Q.Test p t) = query (at p) (more (test_of t) no_queries)
query_of (Q.Expr e) = query (counts (node_of e)) no_queries

-- What a query or a test is: a tree of heads, as an expression is.
use Rattle.std.specs.Prelude.{ℕ, suc, ◌+◌, Bool, List, [], ◌∷◌, Option}
use Rattle.bson_value.specs.Tree.{Tree}
use Rattle.bson_value.specs.Paths.{Steps}
use Rattle.expr_tree.specs.Node.{Node}

-- how a value is compared with an operand
pub data Relation : Type 0 where
  equal : Relation
  greater : Relation
  greater_or_equal : Relation
  less : Relation
  less_or_equal : Relation

-- queries, and then tests; the parts of `at` and `not_all` are tests
pub data QueryHead : Type 0 where
  every : QueryHead
  some : QueryHead
  none : QueryHead
  at : Steps → QueryHead
  counts : Node → QueryHead
  compares : Relation → Tree → QueryHead
  differs : Tree → QueryHead
  among : List Tree → QueryHead
  not_among : List Tree → QueryHead
  exists : Bool → QueryHead
  kind : ℕ → QueryHead
  size : ℕ → QueryHead
  all : List Tree → QueryHead
  element : QueryHead
  element_tests : QueryHead
  not_all : QueryHead

mutual
  pub data QueryNode : Type 0 where
    query : QueryHead → QueryNodes → QueryNode

  pub data QueryNodes : Type 0 where
    no_queries : QueryNodes
    more : QueryNode → QueryNodes → QueryNodes

abbrev pub queries_of : List QueryNode → QueryNodes
queries_of [] = no_queries
queries_of (q ∷ qs) = more q (queries_of qs)

abbrev mutual
  pub query_size : QueryNode → ℕ
  query_size (query h qs) = suc (queries_size qs)

  pub queries_size : QueryNodes → ℕ
  queries_size no_queries = 0
  queries_size (more q qs) = suc (query_size q + queries_size qs)

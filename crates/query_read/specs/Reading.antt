-- Reading a document: the query that it is, if it is one.
use Rattle.std.specs.Prelude.{ℕ, ℤ, pos, negsuc, Bool, true, false, not, List, [], ◌∷◌, ◌++◌, Option, Some, None, if◌then◌else◌}
use Rattle.std.specs.Option.{is_some}
use Rattle.bson_value.specs.Paths.{Steps}
use Rattle.bson_value.specs.Tree.{Leaf, least, null, int, long, text, bin, id, flag, date, stamp, greatest, Tree, leaf, doc, list, Pairs, no_pairs, pair, Trees, no_trees, tree, pairs_of, members}
use Rattle.expr_read.specs.Reading.{◌>>=◌, only_if, path_in, reading}
use Rattle.expr_tree.specs.QueryNode.{equal, greater, greater_or_equal, less, less_or_equal, QueryHead, every, some, none, at, counts, compares, differs, among, not_among, exists, kind, size, all, element, element_tests, not_all, QueryNode, query, no_queries, more, queries_of}
use Rattle.query_read.specs.declared.words.Connective.{Connective}
use Rattle.query_read.specs.declared.words.Connective.TheVariants as C
use Rattle.query_read.specs.declared.words.Operator.{Operator}
use Rattle.query_read.specs.declared.words.Operator.TheVariants as O
use Rattle.query_read.specs.declared.words.Word.{Word}
use Rattle.query_read.specs.declared.words.Word.TheVariants as W
use Rattle.query_read.specs.Words.{word_named, operator_named, type_in, is_extreme}
use Rattle.query_read.specs.Written.{has_operator, equals}

abbrev pub single : QueryHead → QueryNode
single h = query h no_queries

abbrev pub at_path : Steps → QueryNode → QueryNode
at_path p q = query (at p) (more q no_queries)

abbrev pub itself : QueryNode → QueryNode
itself q = q

-- the conjunction of parts, where they are not one alone
abbrev pub joined : List QueryNode → QueryNode
joined [] = query every no_queries
joined (q ∷ []) = q
joined (q ∷ r ∷ qs) = query every (queries_of (q ∷ r ∷ qs))

abbrev pub head_of : Connective → QueryHead
head_of C.And = every
head_of C.Or = some
head_of C.Nor = none

-- ---- operands

abbrev pub bound_in : Tree → Option Tree
bound_in t = only_if (not (is_extreme t)) (Some t)

abbrev pub values_in : Tree → Option (List Tree)
values_in (leaf l) = None
values_in (doc ps) = None
values_in (list ts) = Some (members ts)

abbrev pub flag_in : Tree → Option Bool
flag_in (leaf least) = None
flag_in (leaf null) = None
flag_in (leaf (int n)) = None
flag_in (leaf (long n)) = None
flag_in (leaf (text s)) = None
flag_in (leaf (bin k s)) = None
flag_in (leaf (id s)) = None
flag_in (leaf (flag b)) = Some b
flag_in (leaf (date n)) = None
flag_in (leaf (stamp n)) = None
flag_in (leaf greatest) = None
flag_in (doc ps) = None
flag_in (list ts) = None

abbrev pub natural : ℤ → Option ℕ
natural (pos n) = Some n
natural (negsuc n) = None

abbrev pub size_in : Tree → Option ℕ
size_in (leaf least) = None
size_in (leaf null) = None
size_in (leaf (int n)) = natural n
size_in (leaf (long n)) = natural n
size_in (leaf (text s)) = None
size_in (leaf (bin k s)) = None
size_in (leaf (id s)) = None
size_in (leaf (flag b)) = None
size_in (leaf (date n)) = None
size_in (leaf (stamp n)) = None
size_in (leaf greatest) = None
size_in (doc ps) = None
size_in (list ts) = None

-- ---- tests, from what the operand is as one of `$elemMatch` and of `$not`

abbrev pub by_operator : Option Operator → Tree → Option QueryNode → Option QueryNode → Option QueryNode
by_operator None t elem denied = None
by_operator (Some O.Eq) t elem denied = Some (equals t)
by_operator (Some O.Ne) t elem denied = Some (single (differs t))
by_operator (Some O.Gt) t elem denied = bound_in t >>= λ v. Some (single (compares greater v))
by_operator (Some O.Gte) t elem denied = bound_in t >>= λ v. Some (single (compares greater_or_equal v))
by_operator (Some O.Lt) t elem denied = bound_in t >>= λ v. Some (single (compares less v))
by_operator (Some O.Lte) t elem denied = bound_in t >>= λ v. Some (single (compares less_or_equal v))
by_operator (Some O.In) t elem denied = values_in t >>= λ vs. Some (single (among vs))
by_operator (Some O.Nin) t elem denied = values_in t >>= λ vs. Some (single (not_among vs))
by_operator (Some O.Exists) t elem denied = flag_in t >>= λ b. Some (single (exists b))
by_operator (Some O.Type) t elem denied = type_in t >>= λ k. Some (single (kind k))
by_operator (Some O.Size) t elem denied = size_in t >>= λ n. Some (single (size n))
by_operator (Some O.All) t elem denied = values_in t >>= λ vs. Some (single (all vs))
by_operator (Some O.ElemMatch) t elem denied = elem
by_operator (Some O.Not) t elem denied = denied

abbrev pub begins_with_test : Pairs → Bool
begins_with_test no_pairs = false
begins_with_test (pair n t ps) = is_some (operator_named n)

abbrev pub has_pairs : Pairs → Bool
has_pairs no_pairs = false
has_pairs (pair n t ps) = true

abbrev pub has_trees : Trees → Bool
has_trees no_trees = false
has_trees (tree t ts) = true

abbrev pub tests_as : QueryHead → Option (List QueryNode) → Option QueryNode
tests_as h o = o >>= λ qs. Some (query h (queries_of qs))

abbrev pub query_as : Option (List QueryNode) → Option QueryNode
query_as o = o >>= λ qs. Some (joined qs)

abbrev pub element_as : Option QueryNode → Option QueryNode
element_as o = o >>= λ q. Some (query element (more q no_queries))

-- ---- a part of a query document, behind those that there are, from what its value is as an array of queries and as a
-- document of operators

abbrev pub Behind : Type 0
Behind = (QueryNode → QueryNode) → List QueryNode → Option (List QueryNode)

abbrev pub at_value : Steps → List QueryNode → Tree → Behind → Option (List QueryNode)
at_value p front (leaf l) tests = Some (front ++ at_path p (equals (leaf l)) ∷ [])
at_value p front (doc ps) tests = if has_operator ps then tests (at_path p) front else Some (front ++ at_path p (equals (doc ps)) ∷ [])
at_value p front (list ts) tests = Some (front ++ at_path p (equals (list ts)) ∷ [])

abbrev pub expr_part : Bool → List QueryNode → Tree → Option (List QueryNode)
expr_part exprs front t = only_if exprs (reading t [] >>= λ n. Some (front ++ single (counts n) ∷ []))

abbrev pub joins_part : Connective → List QueryNode → Option (List QueryNode) → Option (List QueryNode)
joins_part c front queries = queries >>= λ qs. Some (front ++ query (head_of c) (queries_of qs) ∷ [])

abbrev pub path_part : List QueryNode → List ℕ → Tree → Behind → Option (List QueryNode)
path_part front n t tests = path_in n >>= λ p. at_value p front t tests

abbrev pub by_word : Option Word → Bool → List QueryNode → List ℕ → Tree → Option (List QueryNode) → Behind → Option (List QueryNode)
by_word None exprs front n t queries tests = path_part front n t tests
by_word (Some (W.Joins c)) exprs front n t queries tests = joins_part c front queries
by_word (Some W.Counts) exprs front n t queries tests = expr_part exprs front t

abbrev mutual
  -- the parts of a document, behind those that there are
  pub parts_from : Bool → List QueryNode → Pairs → Option (List QueryNode)
  parts_from exprs front no_pairs = Some front
  parts_from exprs front (pair n t ps) = by_word (word_named n) exprs front n t (queries_in exprs t) (λ put qs. tests_in put qs t) >>= λ qs. parts_from exprs qs ps

  -- the tests of a document of operators, each as that makes of it, behind those that there are
  pub tests_from : (QueryNode → QueryNode) → List QueryNode → Pairs → Option (List QueryNode)
  tests_from put front no_pairs = Some front
  tests_from put front (pair n t ps) = by_operator (operator_named n) t (element_in t) (denied_in t) >>= λ q. tests_from put (front ++ put q ∷ []) ps

  pub queries_from : Bool → List QueryNode → Trees → Option (List QueryNode)
  queries_from exprs front no_trees = Some front
  queries_from exprs front (tree t ts) = query_in exprs t >>= λ q. queries_from exprs (front ++ q ∷ []) ts

  -- a value as a query
  pub query_in : Bool → Tree → Option QueryNode
  query_in exprs (leaf l) = None
  query_in exprs (doc ps) = query_as (parts_from exprs [] ps)
  query_in exprs (list ts) = None

  -- as an array of queries
  pub queries_in : Bool → Tree → Option (List QueryNode)
  queries_in exprs (leaf l) = None
  queries_in exprs (doc ps) = None
  queries_in exprs (list ts) = only_if (has_trees ts) (queries_from exprs [] ts)

  -- as a document of operators
  pub tests_in : (QueryNode → QueryNode) → List QueryNode → Tree → Option (List QueryNode)
  tests_in put front (leaf l) = None
  tests_in put front (doc ps) = tests_from put front ps
  tests_in put front (list ts) = None

  -- as the operand of `$elemMatch`
  pub element_in : Tree → Option QueryNode
  element_in (leaf l) = None
  element_in (doc ps) = if begins_with_test ps then tests_as element_tests (tests_from itself [] ps) else element_as (query_as (parts_from false [] ps))
  element_in (list ts) = None

  -- as that of `$not`
  pub denied_in : Tree → Option QueryNode
  denied_in (leaf l) = None
  denied_in (doc ps) = only_if (has_pairs ps) (tests_as not_all (tests_from itself [] ps))
  denied_in (list ts) = None

abbrev pub part_reading : Bool → List QueryNode → List ℕ → Tree → Option (List QueryNode)
part_reading exprs front n t = by_word (word_named n) exprs front n t (queries_in exprs t) (λ put qs. tests_in put qs t)

abbrev pub test_reading : List ℕ → Tree → Option QueryNode
test_reading n t = by_operator (operator_named n) t (element_in t) (denied_in t)

abbrev pub doc_reading : Bool → Pairs → Option QueryNode
doc_reading exprs ps = query_as (parts_from exprs [] ps)

abbrev pub element_reading : Pairs → Option QueryNode
element_reading ps = if begins_with_test ps then tests_as element_tests (tests_from itself [] ps) else element_as (doc_reading false ps)

-- the query that a document is; the flag says whether `$expr` may stand in it
abbrev pub query_reading : Bool → List (List ℕ × Tree) → Option QueryNode
query_reading exprs ps = doc_reading exprs (pairs_of ps)

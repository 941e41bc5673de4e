-- A query or a test of a list is smaller than the list.
use Rattle.std.proofs.Common.{◌≡◌, ℕ, zero, suc, ◌<◌, List, [], ◌∷◌, length, map, get_or, arith}
use Rattle.expr_tree.specs.declared.query.Query.{Query}
use Rattle.expr_tree.specs.declared.query.Test.{Test}
use Rattle.expr_tree.specs.QueryNode.{query_size, queries_of, queries_size}
use Rattle.expr_tree.specs.QueryView.{query_of, test_of}
use Rattle.query_eval.specs.declared.queries.ElementTest.{ElementTest}
use Rattle.query_eval.specs.declared.queries.ElementTest.TheVariants as E

pub query_at : (qs : List Query) (i : ℕ) (q : Query) → i < length qs → q ≡ get_or qs i q → query_size (query_of q) < queries_size (queries_of (map query_of qs))
query_at [] i q lt p = absurd (omega arith)
query_at (x ∷ qs) zero q lt p = rw p (omega arith)
query_at (x ∷ qs) (suc i) q lt p = omega (arith, query_at qs i q (omega arith) p)

pub test_at : (ts : List Test) (i : ℕ) (t : Test) → i < length ts → t ≡ get_or ts i t → query_size (test_of t) < queries_size (queries_of (map test_of ts))
test_at [] i t lt p = absurd (omega arith)
test_at (x ∷ ts) zero t lt p = rw p (omega arith)
test_at (x ∷ ts) (suc i) t lt p = omega (arith, test_at ts i t (omega arith) p)

-- the size of what is asked of an element
abbrev pub element_size : ElementTest → ℕ
element_size (E.Query q) = query_size (query_of q.now)
element_size (E.Tests ts) = queries_size (queries_of (map test_of ts.now))

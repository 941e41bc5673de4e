-- How a query is told from others, by a proof.
use Rattle.std.specs.Prelude.{◌≡◌, ℕ, zero, suc, Bool, List, ◌⊎◌, refl}
use Rattle.std.proofs.Common.{ap, inl, inr}
use Rattle.std.specs.Coded.{Coded, code_by, coded_ℕ, coded_bool, coded_list, coded×, coded⊎}
use base.Stored.{Gv, gnil, gnum, gcons}
use Rattle.bson_value.specs.Tree.{Tree}
use Rattle.bson_value.specs.Code.{tree_code}
use Rattle.bson_value.specs.Paths.{Steps}
use Rattle.expr_tree.specs.Node.{Node}
use Rattle.expr_tree.specs.Code.{node_code}
use Rattle.expr_tree.specs.QueryNode.{Relation, equal, greater, greater_or_equal, less, less_or_equal, QueryHead, every, some, none, at, counts, compares, differs, among, not_among, exists, kind, size, all, element, element_tests, not_all, QueryNode, query, QueryNodes, no_queries, more}

-- the relations are numbered
abbrev relation_number : Relation → ℕ
relation_number equal = 0
relation_number greater = 1
relation_number greater_or_equal = 2
relation_number less = 3
relation_number less_or_equal = 4

abbrev relation_from : ℕ → Relation
relation_from zero = equal
relation_from (suc zero) = greater
relation_from (suc (suc zero)) = greater_or_equal
relation_from (suc (suc (suc zero))) = less
relation_from (suc (suc (suc (suc k)))) = less_or_equal

pub relation_back : (r : Relation) → relation_from (relation_number r) ≡ r
relation_back equal = refl
relation_back greater = refl
relation_back greater_or_equal = refl
relation_back less = refl
relation_back less_or_equal = refl

abbrev relation_code : Coded Relation
relation_code = code_by ℕ coded_ℕ relation_number relation_from relation_back

abbrev steps_code : Coded Steps
steps_code = coded_list (coded_list coded_ℕ)

abbrev trees_code : Coded (List Tree)
trees_code = coded_list tree_code

-- what a head holds, kind by kind; the heads that hold nothing are numbered
abbrev Held : Type 0
Held = Steps ⊎ (Node ⊎ ((Relation × Tree) ⊎ (Tree ⊎ (List Tree ⊎ (List Tree ⊎ (List Tree ⊎ (Bool ⊎ (ℕ ⊎ (ℕ ⊎ ℕ)))))))))

abbrev held_code : Coded Held
held_code = coded⊎ steps_code (coded⊎ node_code (coded⊎ (coded× relation_code tree_code) (coded⊎ tree_code (coded⊎ trees_code (coded⊎ trees_code (coded⊎ trees_code (coded⊎ coded_bool (coded⊎ coded_ℕ (coded⊎ coded_ℕ coded_ℕ)))))))))

abbrev held : QueryHead → Held
held (at p) = inl p
held (counts n) = inr (inl n)
held (compares r t) = inr (inr (inl (r, t)))
held (differs t) = inr (inr (inr (inl t)))
held (among ts) = inr (inr (inr (inr (inl ts))))
held (not_among ts) = inr (inr (inr (inr (inr (inl ts)))))
held (all ts) = inr (inr (inr (inr (inr (inr (inl ts))))))
held (exists b) = inr (inr (inr (inr (inr (inr (inr (inl b)))))))
held (kind n) = inr (inr (inr (inr (inr (inr (inr (inr (inl n))))))))
held (size n) = inr (inr (inr (inr (inr (inr (inr (inr (inr (inl n)))))))))
held every = inr (inr (inr (inr (inr (inr (inr (inr (inr (inr 0)))))))))
held some = inr (inr (inr (inr (inr (inr (inr (inr (inr (inr 1)))))))))
held none = inr (inr (inr (inr (inr (inr (inr (inr (inr (inr 2)))))))))
held element = inr (inr (inr (inr (inr (inr (inr (inr (inr (inr 3)))))))))
held element_tests = inr (inr (inr (inr (inr (inr (inr (inr (inr (inr 4)))))))))
held not_all = inr (inr (inr (inr (inr (inr (inr (inr (inr (inr 5)))))))))

abbrev plain_head : ℕ → QueryHead
plain_head zero = every
plain_head (suc zero) = some
plain_head (suc (suc zero)) = none
plain_head (suc (suc (suc zero))) = element
plain_head (suc (suc (suc (suc zero)))) = element_tests
plain_head (suc (suc (suc (suc (suc k))))) = not_all

abbrev head_from : Held → QueryHead
head_from (inl p) = at p
head_from (inr (inl n)) = counts n
head_from (inr (inr (inl h))) = compares h.0 h.1
head_from (inr (inr (inr (inl t)))) = differs t
head_from (inr (inr (inr (inr (inl ts))))) = among ts
head_from (inr (inr (inr (inr (inr (inl ts)))))) = not_among ts
head_from (inr (inr (inr (inr (inr (inr (inl ts))))))) = all ts
head_from (inr (inr (inr (inr (inr (inr (inr (inl b)))))))) = exists b
head_from (inr (inr (inr (inr (inr (inr (inr (inr (inl n))))))))) = kind n
head_from (inr (inr (inr (inr (inr (inr (inr (inr (inr (inl n)))))))))) = size n
head_from (inr (inr (inr (inr (inr (inr (inr (inr (inr (inr n)))))))))) = plain_head n

pub head_back : (h : QueryHead) → head_from (held h) ≡ h
head_back (at p) = refl
head_back (counts n) = refl
head_back (compares r t) = refl
head_back (differs t) = refl
head_back (among ts) = refl
head_back (not_among ts) = refl
head_back (all ts) = refl
head_back (exists b) = refl
head_back (kind n) = refl
head_back (size n) = refl
head_back every = refl
head_back some = refl
head_back none = refl
head_back element = refl
head_back element_tests = refl
head_back not_all = refl

abbrev head_code : Coded QueryHead
head_code = code_by Held held_code held head_from head_back

abbrev first : Gv → Gv
first gnil = gnil
first (gnum n) = gnil
first (gcons a b) = a

abbrev second : Gv → Gv
second gnil = gnil
second (gnum n) = gnil
second (gcons a b) = b

abbrev mutual
  pub query_stored : QueryNode → Gv
  query_stored (query h qs) = gcons (head_code.code h) (queries_stored qs)

  pub queries_stored : QueryNodes → Gv
  queries_stored no_queries = gnil
  queries_stored (more q qs) = gcons (query_stored q) (queries_stored qs)

mutual
  pub query_told : (q r : QueryNode) → query_stored q ≡ query_stored r → q ≡ r
  query_told (query h qs) (query k rs) p = λ i. query (head_code.inj h k (ap first p) i) (queries_told qs rs (ap second p) i)

  pub queries_told : (qs rs : QueryNodes) → queries_stored qs ≡ queries_stored rs → qs ≡ rs
  queries_told no_queries no_queries p = refl
  queries_told (more q qs) (more r rs) p = λ i. more (query_told q r (ap first p) i) (queries_told qs rs (ap second p) i)
  queries_told no_queries (more r rs) p = absurd cc
  queries_told (more q qs) no_queries p = absurd cc

abbrev pub query_code : Coded QueryNode
query_code = record { code = query_stored; inj = query_told }

-- What is spelled is read so.
use Rattle.std.proofs.Common.{◌≡◌, ℕ, zero, suc, ◌<◌, Bool, true, false, cond, List, [], ◌∷◌, ◌++◌, length, map, refl, sym, ap, ◌∙◌, arith, inl, inr, subst}
use Rattle.std.specs.Prelude.{pos, ◌≢◌, Option, Some, None, ◌⊎◌, ◌&&◌, not, codes}
use Rattle.std.specs.Option.{is_some}
use Rattle.std.proofs.lemmas.List.{append_assoc, append-nil}
use Rattle.bson_value.specs.Path.{IsPathText, pieces}
use Rattle.bson_value.specs.Paths.{Steps}
use Rattle.bson_value.specs.Tree.{int, long, flag, Tree, leaf, doc, list, Pairs, no_pairs, pair, Trees, no_trees, tree, pairs_of, trees_of, members}
use Rattle.expr_read.specs.Reading.{◌>>=◌, only_if, path_in, reading}
use Rattle.expr_read.proofs.PathTexts.{path_read, both}
use Rattle.expr_read.proofs.Spelled.{only as expr_only}
use Rattle.expr_tree.specs.Forms.{has_sign}
use Rattle.expr_tree.specs.Node.{Node}
use Rattle.expr_tree.specs.QueryNode.{equal, greater, greater_or_equal, less, less_or_equal, QueryHead, every, some, none, at, counts, compares, differs, among, not_among, exists, kind, size, all, element, element_tests, not_all, QueryNode, query, QueryNodes, no_queries, more, queries_of}
use Rattle.query_read.specs.declared.words.Operator.{Operator}
use Rattle.query_read.specs.declared.words.Operator.TheVariants as O
use Rattle.query_read.specs.Words.{words, operators, word_named, operator_named, type_in, is_extreme}
use Rattle.query_read.specs.Written.{Fields, has_operator, IsLiteral, Part, field, test, tests_at, parts_of, parts, alone, docs_of, IsPathOf, Is, IsBound, equals, SpellParts, SpellEach, SpellsTest, SpellTests, SpellsQuery}
use Rattle.query_read.specs.Reading.{single, at_path, itself, joined, begins_with_test, has_trees, has_pairs, by_operator, by_word, at_value, parts_from, tests_from, queries_from, query_in, queries_in, tests_in, element_in, denied_in, part_reading, test_reading, query_reading, tests_as, element_as}
use Rattle.query_read.proofs.Named.{decided, some_same, operator_is, operator_name, operator_signed, operator_no_word, no_sign, path_no_word, signed_no_path, named, named_some}

members_trees : (ts : List Tree) → members (trees_of ts) ≡ ts
members_trees [] = refl
members_trees (t ∷ ts) = ap (λ us. t ∷ us) (members_trees ts)

listed : QueryNodes → List QueryNode
listed no_queries = []
listed (more q qs) = q ∷ listed qs

queries_listed : (qs : QueryNodes) → queries_of (listed qs) ≡ qs
unfolding listed
queries_listed no_queries = refl
queries_listed (more q qs) = ap (more q) (queries_listed qs)

same_mapped : (qs : List QueryNode) → map itself qs ≡ qs
same_mapped [] = refl
same_mapped (q ∷ qs) = ap (λ rs. q ∷ rs) (same_mapped qs)

-- a part that is read: a field behind whatever stands in front, an operator as the test that it is at its path
abbrev One : Bool → List Part → QueryNode → Type 0
One exprs [] q = ⊥
One exprs (field n t ∷ []) q = (front : List QueryNode) → part_reading exprs front n t ≡ Some (front ++ q ∷ [])
One exprs (test n k t ∷ []) q = IsPathText n × ((s : QueryNode) × (test_reading k t ≡ Some s) × (q ≡ at_path (pieces n) s))
One exprs (a ∷ b ∷ xs) q = ⊥

abbrev Ones : Bool → List Part → List QueryNode → Type 0
Ones exprs [] [] = Unit {0}
Ones exprs [] (q ∷ qs) = ⊥
Ones exprs (x ∷ xs) [] = ⊥
Ones exprs (x ∷ xs) (q ∷ qs) = One exprs (x ∷ []) q × Ones exprs xs qs

-- parts that are read, and the query that a document with them is
abbrev AreRead : Bool → List Part → QueryNode → Type 0
AreRead exprs xs q = (qs : List QueryNode) × (joined qs ≡ q) × Ones exprs xs qs

one_alone : (exprs : Bool) (x : Part) (q : QueryNode) → AreRead exprs (x ∷ []) q → One exprs (x ∷ []) q
one_alone exprs x q a = go a.0 a.1 a.2
  where
    go : (qs : List QueryNode) → joined qs ≡ q → Ones exprs (x ∷ []) qs → One exprs (x ∷ []) q
    go [] e h = absurd h
    go (r ∷ []) e h = subst (One exprs (x ∷ [])) e h.0
    go (r ∷ s ∷ qs) e h = absurd h.1

one_read : (exprs : Bool) (x : Part) (q : QueryNode) → One exprs (x ∷ []) q → AreRead exprs (x ∷ []) q
one_read exprs x q h = (q ∷ [], refl, (h, tt))

as_many : (exprs : Bool) (xs : List Part) (qs : List QueryNode) → Ones exprs xs qs → length xs ≡ length qs
as_many exprs [] [] h = refl
as_many exprs [] (q ∷ qs) h = absurd h
as_many exprs (x ∷ xs) [] h = absurd h
as_many exprs (x ∷ xs) (q ∷ qs) h = ap suc (as_many exprs xs qs h.1)

not_alone : (qs : List QueryNode) → length qs ≢ 1 → joined qs ≡ query every (queries_of qs)
not_alone [] h = refl
not_alone (q ∷ []) h = absurd (h refl)
not_alone (q ∷ r ∷ qs) h = refl

several_read : (exprs : Bool) (xs : List Part) (qs : List QueryNode) → length xs ≢ 1 → Ones exprs xs qs → AreRead exprs xs (query every (queries_of qs))
several_read exprs xs qs l h = (qs, not_alone qs (λ e. l (as_many exprs xs qs h ∙ e)), h)

-- ---- documents from their parts

split_ones : (exprs : Bool) (xs ys : List Part) (qs : List QueryNode) → Ones exprs (xs ++ ys) qs → (ps : List QueryNode) × (rs : List QueryNode) × (ps ++ rs ≡ qs) × Ones exprs xs ps × Ones exprs ys rs
split_ones exprs [] ys qs h = ([], qs, refl, tt, h)
split_ones exprs (x ∷ xs) ys [] h = absurd h
split_ones exprs (x ∷ xs) ys (q ∷ qs) h = let r = split_ones exprs xs ys qs h.1 in (q ∷ r.0, r.1, ap (λ rs. q ∷ rs) r.2, (h.0, r.3), r.4)

tests_read : (exprs : Bool) (n : List ℕ) (ps : Pairs) (qs front : List QueryNode) → Ones exprs (tests_at n ps) qs → tests_from (at_path (pieces n)) front ps ≡ Some (front ++ qs)
tests_read exprs n no_pairs [] front h = ap Some (sym (append-nil front))
tests_read exprs n no_pairs (q ∷ qs) front h = absurd h
tests_read exprs n (pair k t ps) [] front h = absurd h
tests_read exprs n (pair k t ps) (q ∷ qs) front h =
    rw (h.0.1.1, ← h.0.1.2) (tests_read exprs n ps qs (front ++ q ∷ []) h.1 ∙ ap Some (append_assoc front (q ∷ []) qs))

tests_path : (exprs : Bool) (n : List ℕ) (ps : Pairs) (qs : List QueryNode) → has_operator ps ≡ true → Ones exprs (tests_at n ps) qs → IsPathText n
tests_path exprs n no_pairs qs o h = absurd cc
tests_path exprs n (pair k t ps) [] o h = absurd h
tests_path exprs n (pair k t ps) (q ∷ qs) o h = h.0.0

field_read : (exprs : Bool) (n : List ℕ) (t : Tree) (qs front : List QueryNode) → Ones exprs (field n t ∷ []) qs → part_reading exprs front n t ≡ Some (front ++ qs)
field_read exprs n t [] front h = absurd h
field_read exprs n t (q ∷ []) front h = h.0 front
field_read exprs n t (q ∷ r ∷ qs) front h = absurd h.1

operators_read : (exprs : Bool) (n : List ℕ) (ps : Pairs) (qs front : List QueryNode) → has_operator ps ≡ true → Ones exprs (tests_at n ps) qs → part_reading exprs front n (doc ps) ≡ Some (front ++ qs)
operators_read exprs n ps qs front o h =
    let p = tests_path exprs n ps qs o h in
    rw (path_no_word n p, path_read n (pieces n) p refl, o) (tests_read exprs n ps qs front h)

part_read : (exprs : Bool) (n : List ℕ) (t : Tree) (qs front : List QueryNode) → Ones exprs (parts_of n t) qs → part_reading exprs front n t ≡ Some (front ++ qs)
part_read exprs n (leaf l) qs front h = field_read exprs n (leaf l) qs front h
part_read exprs n (list ts) qs front h = field_read exprs n (list ts) qs front h
part_read exprs n (doc ps) qs front h = elim (decided (not (has_sign n) && has_operator ps)) [
  | inl b ↦ operators_read exprs n ps qs front (both (not (has_sign n)) (has_operator ps) b).1 (rw b at h)
  | inr b ↦ field_read exprs n (doc ps) qs front (rw b at h)
]

parts_read : (exprs : Bool) (ps : Fields) (qs front : List QueryNode) → Ones exprs (parts ps) qs → parts_from exprs front (pairs_of ps) ≡ Some (front ++ qs)
parts_read exprs [] [] front h = ap Some (sym (append-nil front))
parts_read exprs [] (q ∷ qs) front h = absurd h
parts_read exprs (p ∷ ps) qs front h =
    let r = split_ones exprs (parts_of p.0 p.1) (parts ps) qs h in
    rw (part_read exprs p.0 p.1 r.0 front r.3) (parts_read exprs ps r.1 (front ++ r.0) r.4 ∙ ap Some (append_assoc front r.0 r.1 ∙ ap (λ rs. front ++ rs) r.2))

doc_read : (exprs : Bool) (ps : Fields) (q : QueryNode) → AreRead exprs (parts ps) q → query_reading exprs ps ≡ Some q
doc_read exprs ps q a = rw (parts_read exprs ps a.0 [] a.2) (ap Some a.1)

-- ---- parts

literal_value : (p : Steps) (front : List QueryNode) (t : Tree) → IsLiteral t → at_value p front t (λ put qs. tests_in put qs t) ≡ Some (front ++ at_path p (equals t) ∷ [])
literal_value p front (leaf l) i = refl
literal_value p front (doc ps) i = rw i refl
literal_value p front (list ts) i = refl

literal_read : (exprs : Bool) (n : List ℕ) (p : Steps) (t : Tree) → IsPathOf n p → IsLiteral t → One exprs (field n t ∷ []) (at_path p (equals t))
literal_read exprs n p t i l = λ front. rw (path_no_word n i.0, path_read n p i.0 i.1) (literal_value p front t l)

some_docs : (ds : List Fields) → 0 < length ds → has_trees (docs_of ds) ≡ true
some_docs [] h = absurd (let f : ⊥ = omega (arith, h) in f)
some_docs (d ∷ ds) h = refl

and_read : (exprs : Bool) (ds : List Fields) (qs : List QueryNode) → 0 < length ds → queries_from exprs [] (docs_of ds) ≡ Some qs → One exprs (field (codes "$and") (list (docs_of ds)) ∷ []) (query every (queries_of qs))
unfolding word_named words
and_read exprs ds qs l h = λ front. rw (some_docs ds l, h) refl

or_read : (exprs : Bool) (ds : List Fields) (qs : List QueryNode) → 0 < length ds → queries_from exprs [] (docs_of ds) ≡ Some qs → One exprs (field (codes "$or") (list (docs_of ds)) ∷ []) (query some (queries_of qs))
unfolding word_named words
or_read exprs ds qs l h = λ front. rw (some_docs ds l, h) refl

nor_read : (exprs : Bool) (ds : List Fields) (qs : List QueryNode) → 0 < length ds → queries_from exprs [] (docs_of ds) ≡ Some qs → One exprs (field (codes "$nor") (list (docs_of ds)) ∷ []) (query none (queries_of qs))
unfolding word_named words
nor_read exprs ds qs l h = λ front. rw (some_docs ds l, h) refl

counts_read : (exprs : Bool) (t : Tree) (n : Node) → exprs ≡ true → reading t [] ≡ Some n → One exprs (field (codes "$expr") t ∷ []) (single (counts n))
unfolding word_named words
counts_read exprs t n e h = λ front. rw (e, h) refl

-- one part, as it is written
written : (exprs : Bool) (xs : List Part) (x : Part) (q : QueryNode) → xs ≡ x ∷ [] → One exprs (x ∷ []) q → AreRead exprs xs q
written exprs xs x q e h = subst (λ ys. AreRead exprs ys q) (sym e) (one_read exprs x q h)

-- ---- tests

test_named : (n : List ℕ) (t : Tree) (q : QueryNode) → test_reading n t ≡ Some q → is_some (operator_named n) ≡ true
test_named n t q h = go (operator_named n) refl h
  where
    go : (o : Option Operator) → operator_named n ≡ o → by_operator o t (element_in t) (denied_in t) ≡ Some q → is_some (operator_named n) ≡ true
    go None e h = absurd cc
    go (Some o) e h = ap is_some e

-- a document that begins with a test is no query
not_query : (exprs : Bool) (ps : Fields) (q : QueryNode) → begins_with_test (pairs_of ps) ≡ true → query_reading exprs ps ≡ Some q → ⊥
not_query exprs [] q b h = absurd cc
not_query exprs (p ∷ ps) q b h =
    let o = named_some p.0 b in
    let name = operator_is p.0 o.0 o.1 in
    let word : word_named p.0 ≡ None = ap word_named name ∙ operator_no_word o.0 in
    let path : path_in p.0 ≡ None = signed_no_path p.0 (ap has_sign name ∙ operator_signed o.0) in
    no_some (rw (word, path) at h)
  where
    no_some : {x : QueryNode} → None ≡ Some x → ⊥
    no_some e = absurd cc

element_query : (ps : Fields) (q : QueryNode) → query_reading false ps ≡ Some q → element_in (doc (pairs_of ps)) ≡ Some (query element (more q no_queries))
element_query ps q h = elim (decided (begins_with_test (pairs_of ps))) [
  | inl b ↦ absurd (not_query false ps q b h)
  | inr b ↦ rw (b, h) refl
]

some_pairs : (ps : Fields) → 0 < length ps → has_pairs (pairs_of ps) ≡ true
some_pairs [] h = absurd (let f : ⊥ = omega (arith, h) in f)
some_pairs (p ∷ ps) h = refl

denied_tests : (ps : Fields) (qs : List QueryNode) → 0 < length ps → tests_from itself [] (pairs_of ps) ≡ Some qs → denied_in (doc (pairs_of ps)) ≡ Some (query not_all (queries_of qs))
denied_tests ps qs l h = rw (some_pairs ps l, h) refl

element_of_tests : (ps : Fields) (qs : List QueryNode) → begins_with_test (pairs_of ps) ≡ true → tests_from itself [] (pairs_of ps) ≡ Some qs → element_in (doc (pairs_of ps)) ≡ Some (query element_tests (queries_of qs))
element_of_tests ps qs b h = rw (b, h) refl

mutual
  unfolding listed

  only : (q : QueryNode) (exprs : Bool) (xs : List Part) → SpellParts exprs xs q → AreRead exprs xs q
  only (query every qs) exprs xs (inl h) = written exprs xs (field (codes "$and") (list (docs_of h.0))) (query every qs) h.1.0 (subst (λ rs. One exprs (field (codes "$and") (list (docs_of h.0)) ∷ []) (query every rs)) (queries_listed qs) (and_read exprs h.0 (listed qs) h.1.1 (each_only qs exprs h.0 [] h.2)))
  only (query every qs) exprs xs (inr h) = subst (λ rs. AreRead exprs xs (query every rs)) (queries_listed qs) (several_read exprs xs (listed qs) h.0 (alone_only qs exprs xs h.1))
  only (query some qs) exprs xs h = written exprs xs (field (codes "$or") (list (docs_of h.0))) (query some qs) h.1.0 (subst (λ rs. One exprs (field (codes "$or") (list (docs_of h.0)) ∷ []) (query some rs)) (queries_listed qs) (or_read exprs h.0 (listed qs) h.1.1 (each_only qs exprs h.0 [] h.2)))
  only (query none qs) exprs xs h = written exprs xs (field (codes "$nor") (list (docs_of h.0))) (query none qs) h.1.0 (subst (λ rs. One exprs (field (codes "$nor") (list (docs_of h.0)) ∷ []) (query none rs)) (queries_listed qs) (nor_read exprs h.0 (listed qs) h.1.1 (each_only qs exprs h.0 [] h.2)))
  only (query (counts n) no_queries) exprs xs h = written exprs xs (field (codes "$expr") h.0) (single (counts n)) h.2 (counts_read exprs h.0 n h.1 (expr_only n [] h.0 h.3))
  only (query (at p) (more q no_queries)) exprs xs (inl h) = written exprs xs (test h.0 h.1 h.2) (at_path p q) h.3 (h.4.0, (q, test_only q h.1 h.2 h.5, ap (λ r. at_path r q) (sym h.4.1)))
  only (query (at p) (more q no_queries)) exprs xs (inr h) = written exprs xs (field h.0 h.1) (at_path p q) h.2 (subst (λ r. One exprs (field h.0 h.1 ∷ []) (at_path p r)) (sym h.5) (literal_read exprs h.0 p h.1 h.3 h.4))
  only q exprs xs h = absurd h

  test_only : (q : QueryNode) (n : List ℕ) (t : Tree) → SpellsTest n t q → test_reading n t ≡ Some q
  test_only (query (compares equal v) no_queries) n t h = rw (h.0, named O.Eq, h.1) refl
  test_only (query (compares greater v) no_queries) n t h = rw (h.0.0, named O.Gt, h.0.1, h.1) refl
  test_only (query (compares greater_or_equal v) no_queries) n t h = rw (h.0.0, named O.Gte, h.0.1, h.1) refl
  test_only (query (compares less v) no_queries) n t h = rw (h.0.0, named O.Lt, h.0.1, h.1) refl
  test_only (query (compares less_or_equal v) no_queries) n t h = rw (h.0.0, named O.Lte, h.0.1, h.1) refl
  test_only (query (differs v) no_queries) n t h = rw (h.0, named O.Ne, h.1) refl
  test_only (query (among vs) no_queries) n t h = rw (h.0, named O.In, h.1, members_trees vs) refl
  test_only (query (not_among vs) no_queries) n t h = rw (h.0, named O.Nin, h.1, members_trees vs) refl
  test_only (query (exists b) no_queries) n t h = rw (h.0, named O.Exists, h.1) refl
  test_only (query (kind k) no_queries) n t h = rw (h.0, named O.Type, h.1) refl
  test_only (query (size i) no_queries) n t (inl h) = rw (h.0, named O.Size, h.1) refl
  test_only (query (size i) no_queries) n t (inr h) = rw (h.0, named O.Size, h.1) refl
  test_only (query (all vs) no_queries) n t h = rw (h.0, named O.All, h.1, members_trees vs) refl
  test_only (query element (more q no_queries)) n t h = rw (h.1.0, named O.ElemMatch, h.1.1) (element_query h.0 q (doc_read false h.0 q (only q false (parts h.0) h.2)))
  test_only (query element_tests qs) n t h = rw (h.1.0, named O.ElemMatch, h.1.1) (tests_element qs h.0 h.2 h.3)
  test_only (query not_all qs) n t h = rw (h.1.0, named O.Not, h.1.1) (denied_tests h.0 (listed qs) h.2 (tests_only qs itself h.0 [] h.3 ∙ ap Some (same_mapped (listed qs))) ∙ ap (λ rs. Some (query not_all rs)) (queries_listed qs))
  test_only q n t h = absurd h

  tests_element : (qs : QueryNodes) (ps : Fields) → 0 < length ps → SpellTests ps qs → element_in (doc (pairs_of ps)) ≡ Some (query element_tests qs)
  tests_element no_queries [] l h = absurd (let f : ⊥ = omega (arith, l) in f)
  tests_element no_queries (p ∷ ps) l h = absurd h
  tests_element (more q qs) [] l h = absurd h
  tests_element (more q qs) (p ∷ ps) l h =
      let first = test_only q p.0 p.1 h.0 in
      element_of_tests (p ∷ ps) (q ∷ listed qs) (test_named p.0 p.1 q first) (rw first (tests_only qs itself ps (q ∷ []) h.1 ∙ ap (λ rs. Some (q ∷ rs)) (same_mapped (listed qs)))) ∙ ap (λ rs. Some (query element_tests (more q rs))) (queries_listed qs)

  tests_only : (qs : QueryNodes) (put : QueryNode → QueryNode) (ps : Fields) (front : List QueryNode) → SpellTests ps qs → tests_from put front (pairs_of ps) ≡ Some (front ++ map put (listed qs))
  tests_only no_queries put [] front h = ap Some (sym (append-nil front))
  tests_only no_queries put (p ∷ ps) front h = absurd h
  tests_only (more q qs) put [] front h = absurd h
  tests_only (more q qs) put (p ∷ ps) front h = rw (test_only q p.0 p.1 h.0) (tests_only qs put ps (front ++ put q ∷ []) h.1 ∙ ap Some (append_assoc front (put q ∷ []) (map put (listed qs))))

  each_only : (qs : QueryNodes) (exprs : Bool) (ds : List Fields) (front : List QueryNode) → SpellEach exprs (map parts ds) qs → queries_from exprs front (docs_of ds) ≡ Some (front ++ listed qs)
  each_only no_queries exprs [] front h = ap Some (sym (append-nil front))
  each_only no_queries exprs (d ∷ ds) front h = absurd h
  each_only (more q qs) exprs [] front h = absurd h
  each_only (more q qs) exprs (d ∷ ds) front h = rw (doc_read exprs d q (only q exprs (parts d) h.0)) (each_only qs exprs ds (front ++ q ∷ []) h.1 ∙ ap Some (append_assoc front (q ∷ []) (listed qs)))

  alone_only : (qs : QueryNodes) (exprs : Bool) (xs : List Part) → SpellEach exprs (map alone xs) qs → Ones exprs xs (listed qs)
  alone_only no_queries exprs [] h = tt
  alone_only no_queries exprs (x ∷ xs) h = absurd h
  alone_only (more q qs) exprs [] h = absurd h
  alone_only (more q qs) exprs (x ∷ xs) h = (one_alone exprs x q (only q exprs (x ∷ []) h.0), alone_only qs exprs xs h.1)

-- what is spelled is read so
pub read_so : (exprs : Bool) (ps : Fields) (q : QueryNode) → SpellsQuery exprs ps q → query_reading exprs ps ≡ Some q
read_so exprs ps q h = doc_read exprs ps q (only q exprs (parts ps) h)

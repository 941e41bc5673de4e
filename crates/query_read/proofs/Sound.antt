-- What is read is spelled so.
use Rattle.std.proofs.Common.{◌≡◌, ℕ, zero, suc, ◌<◌, Bool, true, false, cond, List, [], ◌∷◌, ◌++◌, length, map, refl, sym, ap, ◌∙◌, arith, inl, inr, subst}
use Rattle.std.specs.Prelude.{ℤ, pos, negsuc, ◌≢◌, Option, Some, None, ◌⊎◌, ◌&&◌, not, codes}
use Rattle.std.proofs.lemmas.List.{append_assoc, append-nil}
use Rattle.std.proofs.lemmas.Bool.{false_from_ne_true}
use Rattle.bson_value.specs.Path.{IsPathText, pieces}
use Rattle.bson_value.specs.Paths.{Steps}
use Rattle.bson_value.specs.Tree.{Leaf, least, null, int, long, text, bin, id, flag, date, stamp, greatest, Tree, leaf, doc, list, Pairs, no_pairs, pair, Trees, no_trees, tree, pairs_of, trees_of, entries, members}
use Rattle.expr_read.specs.Reading.{◌>>=◌, only_if, path_in, reading}
use Rattle.expr_read.proofs.PathTexts.{path_is}
use Rattle.expr_read.proofs.Sound.{spelled as expr_spelled}
use Rattle.expr_tree.specs.Forms.{has_sign}
use Rattle.expr_tree.specs.Node.{Node}
use Rattle.expr_tree.specs.QueryNode.{equal, greater, greater_or_equal, less, less_or_equal, QueryHead, every, some, none, at, counts, compares, differs, among, not_among, exists, kind, size, all, element, element_tests, not_all, QueryNode, query, QueryNodes, no_queries, more, queries_of}
use Rattle.query_read.specs.declared.words.Connective.{Connective}
use Rattle.query_read.specs.declared.words.Connective.TheVariants as C
use Rattle.query_read.specs.declared.words.Operator.{Operator}
use Rattle.query_read.specs.declared.words.Operator.TheVariants as O
use Rattle.query_read.specs.declared.words.Word.{Word}
use Rattle.query_read.specs.declared.words.Word.TheVariants as W
use Rattle.query_read.specs.Words.{word_named, operator_named, type_in, is_extreme}
use Rattle.query_read.specs.Written.{Fields, has_operator, IsLiteral, Part, field, test, tests_at, parts_of, parts, alone, docs_of, IsPathOf, Is, IsBound, equals, SpellParts, SpellEach, SpellsTest, SpellTests, SpellsQuery}
use Rattle.query_read.specs.Reading.{single, at_path, itself, joined, head_of, bound_in, values_in, flag_in, natural, size_in, by_operator, begins_with_test, has_pairs, has_trees, Behind, at_value, path_part, by_word, parts_from, tests_from, queries_from, query_in, queries_in, tests_in, element_in, denied_in, part_reading, test_reading, query_reading}
use Rattle.query_read.proofs.Named.{decided, some_same, join_name, operator_is, word_is, word_signed, no_sign}

bind_some : {A B : Type 0} (o : Option A) (f : A → Option B) (y : B) → (o >>= f) ≡ Some y → (x : A) × (o ≡ Some x) × (f x ≡ Some y)
bind_some None f y e = absurd cc
bind_some (Some x) f y e = (x, refl, e)

only_some : {A : Type 0} (b : Bool) (o : Option A) (y : A) → only_if b o ≡ Some y → (b ≡ true) × (o ≡ Some y)
only_some true o y e = (refl, e)
only_some false o y e = absurd cc

not_true : (b : Bool) → not b ≡ true → b ≡ false
not_true true e = absurd cc
not_true false e = refl

pairs_again : (ps : Pairs) → pairs_of (entries ps) ≡ ps
pairs_again no_pairs = refl
pairs_again (pair n t ps) = ap (pair n t) (pairs_again ps)

trees_again : (ts : Trees) → trees_of (members ts) ≡ ts
trees_again no_trees = refl
trees_again (tree t ts) = ap (tree t) (trees_again ts)

same_mapped : (qs : List QueryNode) → map itself qs ≡ qs
same_mapped [] = refl
same_mapped (q ∷ qs) = ap (λ rs. q ∷ rs) (same_mapped qs)

-- ---- operands

bound_given : (name : List ℕ) (n : List ℕ) (t : Tree) (f : Tree → QueryNode) (q : QueryNode) → n ≡ name → (bound_in t >>= λ v. Some (f v)) ≡ Some q → (v : Tree) × (f v ≡ q) × IsBound name v n t
bound_given name n t f q e h =
    let b = bind_some (bound_in t) (λ v. Some (f v)) q h in
    let w = only_some (not (is_extreme t)) (Some t) b.0 b.1 in
    (t, ap f (some_same t b.0 w.1) ∙ some_same (f b.0) q b.2, ((e, refl), not_true (is_extreme t) w.0))

values_are : (t : Tree) (vs : List Tree) → values_in t ≡ Some vs → t ≡ list (trees_of vs)
values_are (leaf l) vs e = absurd cc
values_are (doc ps) vs e = absurd cc
values_are (list ts) vs e = ap list (sym (trees_again ts)) ∙ ap (λ us. list (trees_of us)) (some_same (members ts) vs e)

values_given : (name : List ℕ) (n : List ℕ) (t : Tree) (f : List Tree → QueryNode) (q : QueryNode) → n ≡ name → (values_in t >>= λ vs. Some (f vs)) ≡ Some q → (vs : List Tree) × (f vs ≡ q) × Is name (list (trees_of vs)) n t
values_given name n t f q e h =
    let b = bind_some (values_in t) (λ vs. Some (f vs)) q h in
    (b.0, some_same (f b.0) q b.2, (e, values_are t b.0 b.1))

flag_is : (t : Tree) (b : Bool) → flag_in t ≡ Some b → t ≡ leaf (flag b)
flag_is (leaf (flag x)) b e = ap (λ y. leaf (flag y)) (some_same x b e)
flag_is (leaf least) b e = absurd cc
flag_is (leaf null) b e = absurd cc
flag_is (leaf (int n)) b e = absurd cc
flag_is (leaf (long n)) b e = absurd cc
flag_is (leaf (text s)) b e = absurd cc
flag_is (leaf (bin k s)) b e = absurd cc
flag_is (leaf (id s)) b e = absurd cc
flag_is (leaf (date n)) b e = absurd cc
flag_is (leaf (stamp n)) b e = absurd cc
flag_is (leaf greatest) b e = absurd cc
flag_is (doc ps) b e = absurd cc
flag_is (list ts) b e = absurd cc

natural_is : (z : ℤ) (i : ℕ) → natural z ≡ Some i → z ≡ pos i
natural_is (pos n) i e = ap pos (some_same n i e)
natural_is (negsuc n) i e = absurd cc

size_is : (t : Tree) (i : ℕ) → size_in t ≡ Some i → (t ≡ leaf (int (pos i))) ⊎ (t ≡ leaf (long (pos i)))
size_is (leaf (int n)) i e = inl (ap (λ z. leaf (int z)) (natural_is n i e))
size_is (leaf (long n)) i e = inr (ap (λ z. leaf (long z)) (natural_is n i e))
size_is (leaf least) i e = absurd cc
size_is (leaf null) i e = absurd cc
size_is (leaf (text s)) i e = absurd cc
size_is (leaf (bin k s)) i e = absurd cc
size_is (leaf (id s)) i e = absurd cc
size_is (leaf (flag b)) i e = absurd cc
size_is (leaf (date n)) i e = absurd cc
size_is (leaf (stamp n)) i e = absurd cc
size_is (leaf greatest) i e = absurd cc
size_is (doc ps) i e = absurd cc
size_is (list ts) i e = absurd cc

size_spelled : (n : List ℕ) (t : Tree) (i : ℕ) → n ≡ codes "$size" → (t ≡ leaf (int (pos i))) ⊎ (t ≡ leaf (long (pos i))) → SpellsTest n t (single (size i))
size_spelled n t i e (inl h) = inl (e, h)
size_spelled n t i e (inr h) = inr (e, h)

-- ---- an operator

abbrev ElementLaw : Tree → Type 0
ElementLaw t = (q : QueryNode) → element_in t ≡ Some q → SpellsTest (codes "$elemMatch") t q

abbrev DeniedLaw : Tree → Type 0
DeniedLaw t = (q : QueryNode) → denied_in t ≡ Some q → SpellsTest (codes "$not") t q

operator_spelled : (n : List ℕ) (t : Tree) (o : Option Operator) → operator_named n ≡ o → ElementLaw t → DeniedLaw t → (q : QueryNode) → by_operator o t (element_in t) (denied_in t) ≡ Some q → SpellsTest n t q
operator_spelled n t None e elem denied q h = absurd cc
operator_spelled n t (Some O.Eq) e elem denied q h = subst (SpellsTest n t) (some_same (equals t) q h) (operator_is n O.Eq e, refl)
operator_spelled n t (Some O.Ne) e elem denied q h = subst (SpellsTest n t) (some_same (single (differs t)) q h) (operator_is n O.Ne e, refl)
operator_spelled n t (Some O.Gt) e elem denied q h = let r = bound_given (codes "$gt") n t (λ v. single (compares greater v)) q (operator_is n O.Gt e) h in subst (SpellsTest n t) r.1 r.2
operator_spelled n t (Some O.Gte) e elem denied q h = let r = bound_given (codes "$gte") n t (λ v. single (compares greater_or_equal v)) q (operator_is n O.Gte e) h in subst (SpellsTest n t) r.1 r.2
operator_spelled n t (Some O.Lt) e elem denied q h = let r = bound_given (codes "$lt") n t (λ v. single (compares less v)) q (operator_is n O.Lt e) h in subst (SpellsTest n t) r.1 r.2
operator_spelled n t (Some O.Lte) e elem denied q h = let r = bound_given (codes "$lte") n t (λ v. single (compares less_or_equal v)) q (operator_is n O.Lte e) h in subst (SpellsTest n t) r.1 r.2
operator_spelled n t (Some O.In) e elem denied q h = let r = values_given (codes "$in") n t (λ vs. single (among vs)) q (operator_is n O.In e) h in subst (SpellsTest n t) r.1 r.2
operator_spelled n t (Some O.Nin) e elem denied q h = let r = values_given (codes "$nin") n t (λ vs. single (not_among vs)) q (operator_is n O.Nin e) h in subst (SpellsTest n t) r.1 r.2
operator_spelled n t (Some O.All) e elem denied q h = let r = values_given (codes "$all") n t (λ vs. single (all vs)) q (operator_is n O.All e) h in subst (SpellsTest n t) r.1 r.2
operator_spelled n t (Some O.Exists) e elem denied q h =
    let b = bind_some (flag_in t) (λ x. Some (single (exists x))) q h in
    subst (SpellsTest n t) (some_same (single (exists b.0)) q b.2) (operator_is n O.Exists e, flag_is t b.0 b.1)
operator_spelled n t (Some O.Type) e elem denied q h =
    let b = bind_some (type_in t) (λ k. Some (single (kind k))) q h in
    subst (SpellsTest n t) (some_same (single (kind b.0)) q b.2) (operator_is n O.Type e, b.1)
operator_spelled n t (Some O.Size) e elem denied q h =
    let b = bind_some (size_in t) (λ i. Some (single (size i))) q h in
    subst (SpellsTest n t) (some_same (single (size b.0)) q b.2) (size_spelled n t b.0 (operator_is n O.Size e) (size_is t b.0 b.1))
operator_spelled n t (Some O.ElemMatch) e elem denied q h = subst (λ m. SpellsTest m t q) (sym (operator_is n O.ElemMatch e)) (elem q h)
operator_spelled n t (Some O.Not) e elem denied q h = subst (λ m. SpellsTest m t q) (sym (operator_is n O.Not e)) (denied q h)

-- ---- parts

parts_append : (exprs : Bool) (xs ys : List Part) (ps qs : List QueryNode) → SpellEach exprs (map alone xs) (queries_of ps) → SpellEach exprs (map alone ys) (queries_of qs) → SpellEach exprs (map alone (xs ++ ys)) (queries_of (ps ++ qs))
parts_append exprs [] ys [] qs g h = h
parts_append exprs [] ys (p ∷ ps) qs g h = absurd g
parts_append exprs (x ∷ xs) ys [] qs g h = absurd g
parts_append exprs (x ∷ xs) ys (p ∷ ps) qs g h = (g.0, parts_append exprs xs ys ps qs g.1 h)

-- a document with these parts
joined_spelled : (exprs : Bool) (xs : List Part) (qs : List QueryNode) → SpellEach exprs (map alone xs) (queries_of qs) → SpellParts exprs xs (joined qs)
joined_spelled exprs [] [] h = inr ((λ e. absurd (let f : ⊥ = omega (arith, e) in f)), tt)
joined_spelled exprs [] (q ∷ qs) h = absurd h
joined_spelled exprs (x ∷ xs) [] h = absurd h
joined_spelled exprs (x ∷ []) (q ∷ []) h = h.0
joined_spelled exprs (x ∷ []) (q ∷ r ∷ qs) h = absurd h.1
joined_spelled exprs (x ∷ y ∷ xs) (q ∷ []) h = absurd h.1
joined_spelled exprs (x ∷ y ∷ xs) (q ∷ r ∷ qs) h = inr ((λ e. absurd (let f : ⊥ = omega (arith, e) in f)), h)

tests_parts : (exprs : Bool) (n : List ℕ) (p : Steps) (ps : Pairs) (qs : List QueryNode) → IsPathOf n p → SpellTests (entries ps) (queries_of qs) → SpellEach exprs (map alone (tests_at n ps)) (queries_of (map (at_path p) qs))
tests_parts exprs n p no_pairs [] i h = tt
tests_parts exprs n p no_pairs (q ∷ qs) i h = absurd h
tests_parts exprs n p (pair k t ps) [] i h = absurd h
tests_parts exprs n p (pair k t ps) (q ∷ qs) i h = (inl (n, k, t, refl, i, h.0), tests_parts exprs n p ps qs i h.1)

-- parts behind those in front
abbrev PartsBehind : Bool → List QueryNode → List QueryNode → List Part → Type 0
PartsBehind exprs front rs xs = (qs : List QueryNode) × (front ++ qs ≡ rs) × SpellEach exprs (map alone xs) (queries_of qs)

one_behind : (exprs : Bool) (front rs : List QueryNode) (x : Part) (q : QueryNode) → Some (front ++ q ∷ []) ≡ Some rs → SpellParts exprs (x ∷ []) q → PartsBehind exprs front rs (x ∷ [])
one_behind exprs front rs x q e h = (q ∷ [], some_same (front ++ q ∷ []) rs e, (h, tt))

signed_parts : (n : List ℕ) (t : Tree) → has_sign n ≡ true → parts_of n t ≡ field n t ∷ []
signed_parts n (leaf l) s = refl
signed_parts n (doc ps) s = rw s refl
signed_parts n (list ts) s = refl

abbrev IsArray : Bool → Tree → List QueryNode → Type 0
IsArray exprs t qs = (ds : List Fields) × (t ≡ list (docs_of ds)) × (0 < length ds) × SpellEach exprs (map parts ds) (queries_of qs)

joins_spelled : (exprs : Bool) (c : Connective) (t : Tree) (qs : List QueryNode) → IsArray exprs t qs → SpellParts exprs (field (join_name c) t ∷ []) (query (head_of c) (queries_of qs))
joins_spelled exprs C.And t qs a = inl (a.0, (ap (λ u. field (codes "$and") u ∷ []) a.1, a.2), a.3)
joins_spelled exprs C.Or t qs a = (a.0, (ap (λ u. field (codes "$or") u ∷ []) a.1, a.2), a.3)
joins_spelled exprs C.Nor t qs a = (a.0, (ap (λ u. field (codes "$nor") u ∷ []) a.1, a.2), a.3)

literal_behind : (exprs : Bool) (n : List ℕ) (p : Steps) (t : Tree) (front rs : List QueryNode) → IsPathOf n p → IsLiteral t → Some (front ++ at_path p (equals t) ∷ []) ≡ Some rs → PartsBehind exprs front rs (field n t ∷ [])
literal_behind exprs n p t front rs i l e = one_behind exprs front rs (field n t) (at_path p (equals t)) e (inr (n, t, refl, i, l, refl))

abbrev TestsBehind : (QueryNode → QueryNode) → List QueryNode → List QueryNode → Pairs → Type 0
TestsBehind put front rs ps = (qs : List QueryNode) × (front ++ map put qs ≡ rs) × SpellTests (entries ps) (queries_of qs)

abbrev TestsLaw : Tree → Type 0
TestsLaw (leaf l) = Unit {0}
TestsLaw (doc ps) = (put : QueryNode → QueryNode) (front rs : List QueryNode) → tests_from put front ps ≡ Some rs → TestsBehind put front rs ps
TestsLaw (list ts) = Unit {0}

value_spelled : (exprs : Bool) (n : List ℕ) (p : Steps) (t : Tree) (front rs : List QueryNode) → IsPathOf n p → TestsLaw t → at_value p front t (λ put qs. tests_in put qs t) ≡ Some rs → PartsBehind exprs front rs (parts_of n t)
value_spelled exprs n p (leaf l) front rs i law e = literal_behind exprs n p (leaf l) front rs i tt e
value_spelled exprs n p (list ts) front rs i law e = literal_behind exprs n p (list ts) front rs i tt e
value_spelled exprs n p (doc ps) front rs i law e = elim (decided (has_operator ps)) [
  | inl o ↦
      let r = law (at_path p) front rs (rw o at e) in
      rw (no_sign n i.0, o) (map (at_path p) r.0, r.1, tests_parts exprs n p ps r.0 i r.2)
  | inr o ↦ rw (no_sign n i.0, o) (literal_behind exprs n p (doc ps) front rs i o (rw o at e))
]

abbrev QueriesLaw : Bool → Tree → Type 0
QueriesLaw exprs t = (qs : List QueryNode) → queries_in exprs t ≡ Some qs → IsArray exprs t qs

part_spelled : (exprs : Bool) (front : List QueryNode) (n : List ℕ) (t : Tree) (w : Option Word) → word_named n ≡ w → QueriesLaw exprs t → TestsLaw t → (rs : List QueryNode) → by_word w exprs front n t (queries_in exprs t) (λ put qs. tests_in put qs t) ≡ Some rs → PartsBehind exprs front rs (parts_of n t)
part_spelled exprs front n t None e array law rs h =
    let b = bind_some (path_in n) (λ p. at_value p front t (λ put qs. tests_in put qs t)) rs h in
    value_spelled exprs n b.0 t front rs (path_is n b.0 b.1) law b.2
part_spelled exprs front n t (Some (W.Joins c)) e array law rs h =
    let b = bind_some (queries_in exprs t) (λ qs. Some (front ++ query (head_of c) (queries_of qs) ∷ [])) rs h in
    let name = word_is n (W.Joins c) e in
    rw (signed_parts n t (ap has_sign name ∙ word_signed (W.Joins c)), name) (one_behind exprs front rs (field (join_name c) t) (query (head_of c) (queries_of b.0)) b.2 (joins_spelled exprs c t b.0 (array b.0 b.1)))
part_spelled exprs front n t (Some W.Counts) e array law rs h =
    let o = only_some exprs (reading t [] >>= λ x. Some (front ++ single (counts x) ∷ [])) rs h in
    let b = bind_some (reading t []) (λ x. Some (front ++ single (counts x) ∷ [])) rs o.1 in
    let name = word_is n W.Counts e in
    rw (signed_parts n t (ap has_sign name ∙ word_signed W.Counts), name) (one_behind exprs front rs (field (codes "$expr") t) (single (counts b.0)) b.2 (t, o.0, refl, expr_spelled t [] b.0 b.1))

-- ---- documents within

doc_fields : (ps : Pairs) → doc ps ≡ doc (pairs_of (entries ps))
doc_fields ps = ap doc (sym (pairs_again ps))

some_fields : (ps : Pairs) → has_pairs ps ≡ true → 0 < length (entries ps)
some_fields no_pairs h = absurd cc
some_fields (pair n t ps) h = omega arith

test_fields : (ps : Pairs) → begins_with_test ps ≡ true → has_pairs ps ≡ true
test_fields no_pairs h = h
test_fields (pair n t ps) h = refl

itself_spelled : (ps : Pairs) (qs : List QueryNode) → TestsBehind itself [] qs ps → SpellTests (entries ps) (queries_of qs)
itself_spelled ps qs b = subst (λ rs. SpellTests (entries ps) (queries_of rs)) (sym (same_mapped b.0) ∙ b.1) b.2

abbrev IsQuery : Bool → Tree → QueryNode → Type 0
IsQuery exprs t q = (ps : Fields) × (t ≡ doc (pairs_of ps)) × SpellParts exprs (parts ps) q

doc_spelled : (exprs : Bool) (ps : Pairs) (q : QueryNode) → ((rs : List QueryNode) → parts_from exprs [] ps ≡ Some rs → PartsBehind exprs [] rs (parts (entries ps))) → (parts_from exprs [] ps >>= λ qs. Some (joined qs)) ≡ Some q → SpellParts exprs (parts (entries ps)) q
doc_spelled exprs ps q law h =
    let b = bind_some (parts_from exprs [] ps) (λ qs. Some (joined qs)) q h in
    let r = law b.0 b.1 in
    subst (SpellParts exprs (parts (entries ps))) (ap joined r.1 ∙ some_same (joined b.0) q b.2) (joined_spelled exprs (parts (entries ps)) r.0 r.2)

element_spelled : (ps : Pairs) (q : QueryNode) → ((rs : List QueryNode) → parts_from false [] ps ≡ Some rs → PartsBehind false [] rs (parts (entries ps))) → ((rs : List QueryNode) → tests_from itself [] ps ≡ Some rs → TestsBehind itself [] rs ps) → element_in (doc ps) ≡ Some q → SpellsTest (codes "$elemMatch") (doc ps) q
element_spelled ps q law tests h = elim (decided (begins_with_test ps)) [
  | inl b ↦
      let r = bind_some (tests_from itself [] ps) (λ qs. Some (query element_tests (queries_of qs))) q (rw b at h) in
      subst (SpellsTest (codes "$elemMatch") (doc ps)) (some_same (query element_tests (queries_of r.0)) q r.2) (entries ps, (refl, doc_fields ps), some_fields ps (test_fields ps b), itself_spelled ps r.0 (tests r.0 r.1))
  | inr b ↦
      let r = bind_some (parts_from false [] ps >>= λ qs. Some (joined qs)) (λ x. Some (query element (more x no_queries))) q (rw b at h) in
      subst (SpellsTest (codes "$elemMatch") (doc ps)) (some_same (query element (more r.0 no_queries)) q r.2) (entries ps, (refl, doc_fields ps), doc_spelled false ps r.0 law r.1)
]

denied_spelled : (ps : Pairs) (q : QueryNode) → ((rs : List QueryNode) → tests_from itself [] ps ≡ Some rs → TestsBehind itself [] rs ps) → denied_in (doc ps) ≡ Some q → SpellsTest (codes "$not") (doc ps) q
denied_spelled ps q tests h =
    let w = only_some (has_pairs ps) (tests_from itself [] ps >>= λ qs. Some (query not_all (queries_of qs))) q h in
    let r = bind_some (tests_from itself [] ps) (λ qs. Some (query not_all (queries_of qs))) q w.1 in
    subst (SpellsTest (codes "$not") (doc ps)) (some_same (query not_all (queries_of r.0)) q r.2) (entries ps, (refl, doc_fields ps), some_fields ps w.0, itself_spelled ps r.0 (tests r.0 r.1))

abbrev DocsBehind : Bool → List QueryNode → List QueryNode → Trees → Type 0
DocsBehind exprs front rs ts = (qs : List QueryNode) × (ds : List Fields) × (front ++ qs ≡ rs) × (ts ≡ docs_of ds) × SpellEach exprs (map parts ds) (queries_of qs)

some_docs : (ts : Trees) (ds : List Fields) → ts ≡ docs_of ds → has_trees ts ≡ true → 0 < length ds
some_docs ts [] e h = absurd (let f : has_trees no_trees ≡ true = rw e at h in let g : false ≡ true = f in cc)
some_docs ts (d ∷ ds) e h = omega arith

array_spelled : (exprs : Bool) (ts : Trees) (qs : List QueryNode) → ((rs : List QueryNode) → queries_from exprs [] ts ≡ Some rs → DocsBehind exprs [] rs ts) → only_if (has_trees ts) (queries_from exprs [] ts) ≡ Some qs → IsArray exprs (list ts) qs
array_spelled exprs ts qs law h =
    let w = only_some (has_trees ts) (queries_from exprs [] ts) qs h in
    let r = law qs w.1 in
    (r.1, ap list r.3, some_docs ts r.1 r.3 w.0, subst (λ rs. SpellEach exprs (map parts r.1) (queries_of rs)) r.2 r.4)

mutual
  parts_behind : (ps : Pairs) (exprs : Bool) (front rs : List QueryNode) → parts_from exprs front ps ≡ Some rs → PartsBehind exprs front rs (parts (entries ps))
  parts_behind no_pairs exprs front rs h = ([], append-nil front ∙ some_same front rs h, tt)
  parts_behind (pair n t ps) exprs front rs h =
      let b = bind_some (part_reading exprs front n t) (λ qs. parts_from exprs qs ps) rs h in
      let x = part_spelled exprs front n t (word_named n) refl (queries_good t exprs) (tests_good t) b.0 b.1 in
      let y = parts_behind ps exprs b.0 rs b.2 in
      (x.0 ++ y.0, sym (append_assoc front x.0 y.0) ∙ ap (λ f. f ++ y.0) x.1 ∙ y.1, parts_append exprs (parts_of n t) (parts (entries ps)) x.0 y.0 x.2 y.2)

  tests_behind : (ps : Pairs) (put : QueryNode → QueryNode) (front rs : List QueryNode) → tests_from put front ps ≡ Some rs → TestsBehind put front rs ps
  tests_behind no_pairs put front rs h = ([], append-nil front ∙ some_same front rs h, tt)
  tests_behind (pair n t ps) put front rs h =
      let b = bind_some (test_reading n t) (λ q. tests_from put (front ++ put q ∷ []) ps) rs h in
      let x = operator_spelled n t (operator_named n) refl (element_good t) (denied_good t) b.0 b.1 in
      let y = tests_behind ps put (front ++ put b.0 ∷ []) rs b.2 in
      (b.0 ∷ y.0, sym (append_assoc front (put b.0 ∷ []) (map put y.0)) ∙ y.1, (x, y.2))

  docs_behind : (ts : Trees) (exprs : Bool) (front rs : List QueryNode) → queries_from exprs front ts ≡ Some rs → DocsBehind exprs front rs ts
  docs_behind no_trees exprs front rs h = ([], [], append-nil front ∙ some_same front rs h, refl, tt)
  docs_behind (tree t ts) exprs front rs h =
      let b = bind_some (query_in exprs t) (λ q. queries_from exprs (front ++ q ∷ []) ts) rs h in
      let x = query_good t exprs b.0 b.1 in
      let y = docs_behind ts exprs (front ++ b.0 ∷ []) rs b.2 in
      (b.0 ∷ y.0, x.0 ∷ y.1, sym (append_assoc front (b.0 ∷ []) y.0) ∙ y.2, ap (λ u. tree u ts) x.1 ∙ ap (tree (doc (pairs_of x.0))) y.3, (x.2, y.4))

  query_good : (t : Tree) (exprs : Bool) (q : QueryNode) → query_in exprs t ≡ Some q → IsQuery exprs t q
  query_good (leaf l) exprs q h = absurd cc
  query_good (doc ps) exprs q h = (entries ps, doc_fields ps, doc_spelled exprs ps q (parts_behind ps exprs []) h)
  query_good (list ts) exprs q h = absurd cc

  queries_good : (t : Tree) (exprs : Bool) → QueriesLaw exprs t
  queries_good (leaf l) exprs = λ qs h. absurd cc
  queries_good (doc ps) exprs = λ qs h. absurd cc
  queries_good (list ts) exprs = λ qs h. array_spelled exprs ts qs (docs_behind ts exprs []) h

  tests_good : (t : Tree) → TestsLaw t
  tests_good (leaf l) = tt
  tests_good (doc ps) = tests_behind ps
  tests_good (list ts) = tt

  element_good : (t : Tree) → ElementLaw t
  element_good (leaf l) = λ q h. absurd cc
  element_good (doc ps) = λ q h. element_spelled ps q (parts_behind ps false []) (tests_behind ps itself []) h
  element_good (list ts) = λ q h. absurd cc

  denied_good : (t : Tree) → DeniedLaw t
  denied_good (leaf l) = λ q h. absurd cc
  denied_good (doc ps) = λ q h. denied_spelled ps q (tests_behind ps itself []) h
  denied_good (list ts) = λ q h. absurd cc

entries_pairs : (ps : Fields) → entries (pairs_of ps) ≡ ps
entries_pairs [] = refl
entries_pairs (p ∷ ps) = ap (λ qs. p ∷ qs) (entries_pairs ps)

-- what is read is spelled so
pub spelled : (exprs : Bool) (ps : Fields) (q : QueryNode) → query_reading exprs ps ≡ Some q → SpellsQuery exprs ps q
spelled exprs ps q h = subst (λ fs. SpellParts exprs (parts fs) q) (entries_pairs ps) (doc_spelled exprs (pairs_of ps) q (parts_behind (pairs_of ps) exprs []) h)

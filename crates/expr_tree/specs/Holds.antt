-- Whether a query holds of a document (the manual, Query and Projection Operators): true, false, or a code of an
-- expression that is evaluated.
use Rattle.std.specs.Prelude.{ℕ, ◌==◌, Bool, true, false, not, ◌&&◌, List, [], ◌∷◌, length, Option, Some, None, Result, Ok, if◌then◌else◌}
use Rattle.std.specs.List.{list_any, list_all, flat_map}
use Rattle.std.specs.Ordering.{is_eq, is_lt, is_le, is_gt, is_ge}
use Rattle.std.specs.declared.cmp.Ordering.{Ordering}
use Rattle.bson_value.specs.Tree.{Leaf, least, null, int, long, text, bin, id, flag, date, stamp, greatest, Tree, leaf, doc, list, pairs_of, entries, members}
use Rattle.bson_value.specs.Order.{class, order}
use Rattle.bson_value.specs.Paths.{ends, candidates}
use Rattle.bson_value.specs.Operands as Operands
use Rattle.bson_value.specs.Operands.{or_null}
use Rattle.bson_value.specs.declared.eval_code.EvalCode.{EvalCode}
use Rattle.expr_tree.specs.Env.{env_of}
use Rattle.expr_tree.specs.Eval.{eval}
use Rattle.expr_tree.specs.Rows.{◌>>=◌}
use Rattle.expr_tree.specs.QueryNode.{Relation, equal, greater, greater_or_equal, less, less_or_equal, QueryHead, every, some, none, at, counts, compares, differs, among, not_among, exists, kind, size, all, element, element_tests, not_all, QueryNode, query, QueryNodes, no_queries, more, queries_of}

-- what is looked at: a document, or what a path ends at in one, which are the ends and the candidates
pub data Seen : Type 0 where
  document : List (List ℕ × Tree) → Seen
  found : List (Option Tree) → List (Option Tree) → Seen

abbrev pub Verdict : Type 0
Verdict = Result Bool EvalCode

-- what a query or a test means
abbrev pub Holding : Type 0
Holding = Seen → Verdict

abbrev pub negated : Verdict → Verdict
negated v = v >>= λ b. Ok (not b)

-- ---- from the left until it is decided

abbrev pub each_holds : List Holding → Seen → Verdict
each_holds [] s = Ok true
each_holds (m ∷ ms) s = m s >>= λ b. if b then each_holds ms s else Ok false

abbrev pub some_holds : List Holding → Seen → Verdict
some_holds [] s = Ok false
some_holds (m ∷ ms) s = m s >>= λ b. if b then Ok true else some_holds ms s

-- ---- tests of the candidates

abbrev pub related : Relation → Ordering → Bool
related equal o = is_eq o
related greater o = is_gt o
related greater_or_equal o = is_ge o
related less o = is_lt o
related less_or_equal o = is_le o

-- a candidate of the operand's class that compares so, missing counting as null
abbrev pub relates : Relation → Tree → Option Tree → Bool
relates r t c = (class (or_null c) == class t) && related r (order (or_null c) t)

abbrev pub some_relates : Relation → Tree → List (Option Tree) → Bool
some_relates r t cs = list_any (relates r t) cs

abbrev pub one_of : List Tree → List (Option Tree) → Bool
one_of ts cs = list_any (λ t. some_relates equal t cs) ts

abbrev pub all_of : List Tree → List (Option Tree) → Bool
all_of [] cs = false
all_of (t ∷ ts) cs = list_all (λ u. some_relates equal u cs) (t ∷ ts)

abbrev pub is_there : Option Tree → Bool
is_there None = false
is_there (Some t) = true

-- the flag says whether one of them is there
abbrev pub exists_as : Bool → List (Option Tree) → Bool
exists_as true cs = list_any is_there cs
exists_as false cs = not (list_any is_there cs)

-- the number of a type (BSON 1.1, element), MinKey's being that of its byte
abbrev pub leaf_type : Leaf → ℕ
leaf_type least = 255
leaf_type null = 10
leaf_type (int n) = 16
leaf_type (long n) = 18
leaf_type (text s) = 2
leaf_type (bin k s) = 5
leaf_type (id s) = 7
leaf_type (flag b) = 8
leaf_type (date n) = 9
leaf_type (stamp n) = 17
leaf_type greatest = 127

abbrev pub has_type : ℕ → Option Tree → Bool
has_type n None = false
has_type n (Some (leaf l)) = leaf_type l == n
has_type n (Some (doc ps)) = 3 == n
has_type n (Some (list ts)) = 4 == n

-- ---- tests of the ends

abbrev pub has_size : ℕ → Option Tree → Bool
has_size n None = false
has_size n (Some (leaf l)) = false
has_size n (Some (doc ps)) = false
has_size n (Some (list ts)) = length (members ts) == n

-- the elements of an end that is an array
abbrev pub elements : Option Tree → List Tree
elements None = []
elements (Some (leaf l)) = []
elements (Some (doc ps)) = []
elements (Some (list ts)) = members ts

abbrev pub on_document : Holding → Tree → Verdict
on_document m (leaf l) = Ok false
on_document m (doc ps) = m (document (entries ps))
on_document m (list ts) = Ok false

abbrev pub on_itself : List Holding → Tree → Verdict
on_itself ms t = each_holds ms (found (Some t ∷ []) (Some t ∷ []))

abbrev pub some_element : (Tree → Verdict) → List Tree → Verdict
some_element go [] = Ok false
some_element go (t ∷ ts) = go t >>= λ b. if b then Ok true else some_element go ts

-- ---- heads

-- a test, of what a path ends at; there is none of a whole document
abbrev pub on_found : (List (Option Tree) → List (Option Tree) → Verdict) → Seen → Verdict
on_found go (document ps) = Ok false
on_found go (found es cs) = go es cs

-- and the other way round
abbrev pub on_whole : (List (List ℕ × Tree) → Verdict) → Seen → Verdict
on_whole go (document ps) = go ps
on_whole go (found es cs) = Ok false

abbrev pub at_path : List (List ℕ) → List Holding → List (List ℕ × Tree) → Verdict
at_path p (m ∷ []) ps = m (found (ends p (doc (pairs_of ps))) (candidates p (doc (pairs_of ps))))
at_path p _ ps = Ok false

abbrev pub has_element : List Holding → List (Option Tree) → Verdict
has_element (m ∷ []) es = some_element (on_document m) (flat_map elements es)
has_element _ es = Ok false

abbrev pub holds_form : QueryHead → List Holding → Seen → Verdict
holds_form every ms s = each_holds ms s
holds_form some ms s = some_holds ms s
holds_form none ms s = negated (some_holds ms s)
holds_form (at p) ms s = on_whole (at_path p ms) s
holds_form (counts n) ms s = on_whole (λ ps. eval n (env_of ps []) >>= λ v. Ok (Operands.counts v)) s
holds_form (compares r t) ms s = on_found (λ es cs. Ok (some_relates r t cs)) s
holds_form (differs t) ms s = on_found (λ es cs. Ok (not (some_relates equal t cs))) s
holds_form (among ts) ms s = on_found (λ es cs. Ok (one_of ts cs)) s
holds_form (not_among ts) ms s = on_found (λ es cs. Ok (not (one_of ts cs))) s
holds_form (exists b) ms s = on_found (λ es cs. Ok (exists_as b cs)) s
holds_form (kind n) ms s = on_found (λ es cs. Ok (list_any (has_type n) cs)) s
holds_form (size n) ms s = on_found (λ es cs. Ok (list_any (has_size n) es)) s
holds_form (all ts) ms s = on_found (λ es cs. Ok (all_of ts cs)) s
holds_form element ms s = on_found (λ es cs. has_element ms es) s
holds_form element_tests ms s = on_found (λ es cs. some_element (on_itself ms) (flat_map elements es)) s
holds_form not_all ms s = negated (each_holds ms s)

abbrev mutual
  pub holds : QueryNode → Seen → Verdict
  holds (query h qs) = holds_form h (holdings qs)

  pub holdings : QueryNodes → List Holding
  holdings no_queries = []
  holdings (more q qs) = holds q ∷ holdings qs

-- what the queries or tests of a list mean
abbrev pub holding_of : List QueryNode → List Holding
holding_of qs = holdings (queries_of qs)

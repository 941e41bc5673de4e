-- How queries are written: which documents spell which query (the manual, Query and Projection Operators). One line or a
-- few for each form of query and of test.
use Rattle.std.specs.Prelude.{◌≡◌, ◌≢◌, ℕ, pos, ◌<◌, ◌⊎◌, Bool, true, false, not, ◌&&◌, List, [], ◌∷◌, ◌++◌, length, map, Some, if◌then◌else◌, codes}
use Rattle.bson_value.specs.Path.{IsPathText, pieces}
use Rattle.bson_value.specs.Paths.{Steps}
use Rattle.bson_value.specs.Tree.{int, long, flag, Tree, leaf, doc, list, Pairs, no_pairs, pair, Trees, no_trees, tree, pairs_of, trees_of}
use Rattle.expr_tree.specs.Forms.{has_sign}
use Rattle.expr_tree.specs.QueryNode.{equal, greater, greater_or_equal, less, less_or_equal, every, some, none, at, counts, compares, differs, among, not_among, exists, kind, size, all, element, element_tests, not_all, QueryNode, query, QueryNodes, no_queries, more}
use Rattle.expr_tree.specs.Spells.{Spells}
use Rattle.query_read.specs.Words.{type_in, is_extreme}

abbrev pub Fields : Type 0
Fields = List (List ℕ × Tree)

-- the first name begins with a dollar sign
abbrev pub has_operator : Pairs → Bool
has_operator no_pairs = false
has_operator (pair n t ps) = has_sign n

abbrev pub IsLiteral : Tree → Type 0
IsLiteral (leaf l) = Unit {0}
IsLiteral (doc ps) = has_operator ps ≡ false
IsLiteral (list ts) = Unit {0}

-- a part of a query document: a field, or one operator with its operand at a path
pub data Part : Type 0 where
  field : List ℕ → Tree → Part
  test : List ℕ → List ℕ → Tree → Part

abbrev pub tests_at : List ℕ → Pairs → List Part
tests_at path no_pairs = []
tests_at path (pair name value ps) = test path name value ∷ tests_at path ps

-- a field is one part, or at a path as many as there are operators
abbrev pub parts_of : List ℕ → Tree → List Part
parts_of n (leaf l) = field n (leaf l) ∷ []
parts_of n (doc ps) = if not (has_sign n) && has_operator ps then tests_at n ps else field n (doc ps) ∷ []
parts_of n (list ts) = field n (list ts) ∷ []

abbrev pub parts : Fields → List Part
parts [] = []
parts (p ∷ ps) = parts_of p.0 p.1 ++ parts ps

abbrev pub alone : Part → List Part
alone p = p ∷ []

abbrev pub docs_of : List Fields → Trees
docs_of [] = no_trees
docs_of (d ∷ ds) = tree (doc (pairs_of d)) (docs_of ds)

-- one part, of that name, with a nonempty array of documents
abbrev pub Joins : List ℕ → List Part → List Fields → Type 0
Joins name ps ds = (ps ≡ field name (list (docs_of ds)) ∷ []) × (0 < length ds)

-- the name's steps
abbrev pub IsPathOf : List ℕ → Steps → Type 0
IsPathOf name path = IsPathText name × (pieces name ≡ path)

-- an operator of that name, with that operand
abbrev pub Is : List ℕ → Tree → List ℕ → Tree → Type 0
Is name value n t = (n ≡ name) × (t ≡ value)

-- MinKey and MaxKey order nothing
abbrev pub IsBound : List ℕ → Tree → List ℕ → Tree → Type 0
IsBound name value n t = Is name value n t × (is_extreme value ≡ false)

abbrev pub equals : Tree → QueryNode
equals t = query (compares equal t) no_queries

abbrev mutual
  -- the parts of a document; the flag says whether `$expr` may stand in it
  pub SpellParts : Bool → List Part → QueryNode → Type 0
  SpellParts exprs ps (query every qs) =
      ((ds : List Fields) × Joins (codes "$and") ps ds × SpellEach exprs (map parts ds) qs)
      ⊎ ((length ps ≢ 1) × SpellEach exprs (map alone ps) qs)
  SpellParts exprs ps (query some qs) = (ds : List Fields) × Joins (codes "$or") ps ds × SpellEach exprs (map parts ds) qs
  SpellParts exprs ps (query none qs) = (ds : List Fields) × Joins (codes "$nor") ps ds × SpellEach exprs (map parts ds) qs
  SpellParts exprs ps (query (counts n) no_queries) = (t : Tree) × (exprs ≡ true) × (ps ≡ field (codes "$expr") t ∷ []) × Spells [] t n
  SpellParts exprs ps (query (at path) (more q no_queries)) =
      ((name : List ℕ) × (n : List ℕ) × (t : Tree) × (ps ≡ test name n t ∷ []) × IsPathOf name path × SpellsTest n t q)
      ⊎ ((name : List ℕ) × (t : Tree) × (ps ≡ field name t ∷ []) × IsPathOf name path × IsLiteral t × (q ≡ equals t))
  -- no document spells another tree
  SpellParts exprs ps q = ⊥

  -- one query for each
  pub SpellEach : Bool → List (List Part) → QueryNodes → Type 0
  SpellEach exprs [] no_queries = Unit {0}
  SpellEach exprs (ps ∷ pss) (more q qs) = SpellParts exprs ps q × SpellEach exprs pss qs
  SpellEach exprs pss qs = ⊥

  -- an operator of that name, with that operand
  pub SpellsTest : List ℕ → Tree → QueryNode → Type 0
  SpellsTest n t (query (compares equal v) no_queries) = Is (codes "$eq") v n t
  SpellsTest n t (query (compares greater v) no_queries) = IsBound (codes "$gt") v n t
  SpellsTest n t (query (compares greater_or_equal v) no_queries) = IsBound (codes "$gte") v n t
  SpellsTest n t (query (compares less v) no_queries) = IsBound (codes "$lt") v n t
  SpellsTest n t (query (compares less_or_equal v) no_queries) = IsBound (codes "$lte") v n t
  SpellsTest n t (query (differs v) no_queries) = Is (codes "$ne") v n t
  SpellsTest n t (query (among vs) no_queries) = Is (codes "$in") (list (trees_of vs)) n t
  SpellsTest n t (query (not_among vs) no_queries) = Is (codes "$nin") (list (trees_of vs)) n t
  SpellsTest n t (query (exists b) no_queries) = Is (codes "$exists") (leaf (flag b)) n t
  SpellsTest n t (query (kind k) no_queries) = (n ≡ codes "$type") × (type_in t ≡ Some k)
  SpellsTest n t (query (size i) no_queries) = Is (codes "$size") (leaf (int (pos i))) n t ⊎ Is (codes "$size") (leaf (long (pos i))) n t
  SpellsTest n t (query (all vs) no_queries) = Is (codes "$all") (list (trees_of vs)) n t
  SpellsTest n t (query element (more q no_queries)) = (ps : Fields) × Is (codes "$elemMatch") (doc (pairs_of ps)) n t × SpellParts false (parts ps) q
  SpellsTest n t (query element_tests qs) = (ps : Fields) × Is (codes "$elemMatch") (doc (pairs_of ps)) n t × (0 < length ps) × SpellTests ps qs
  SpellsTest n t (query not_all qs) = (ps : Fields) × Is (codes "$not") (doc (pairs_of ps)) n t × (0 < length ps) × SpellTests ps qs
  SpellsTest n t q = ⊥

  -- a document of operators: one test for each
  pub SpellTests : Fields → QueryNodes → Type 0
  SpellTests [] no_queries = Unit {0}
  SpellTests (p ∷ ps) (more q qs) = SpellsTest p.0 p.1 q × SpellTests ps qs
  SpellTests ps qs = ⊥

-- a document spells a query where its parts do; the flag says whether `$expr` may stand in it
abbrev pub SpellsQuery : Bool → Fields → QueryNode → Type 0
SpellsQuery exprs ps q = SpellParts exprs (parts ps) q

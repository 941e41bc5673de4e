-- How expressions are written: which values spell which expression, under the names that are bound (the manual,
-- Aggregation Expressions). One line or a few for each form of expression.
use Rattle.std.specs.Prelude.{◌≡◌, ℕ, ◌<◌, ◌≤◌, ◌⊎◌, true, false, List, [], ◌∷◌, ◌++◌, length, map, Option, Some, None, IfSome, codes}
use Rattle.std.specs.List.{list_all}
use Rattle.bson_value.specs.Tree.{Leaf, text, Tree, leaf, doc, list, Pairs, no_pairs, pair, Trees, no_trees, tree, pairs_of, trees_of}
use Rattle.bson_value.specs.Pairs.{find}
use Rattle.bson_value.specs.Path.{IsPathText, pieces, some_path}
use Rattle.bson_value.specs.Paths.{Steps}
use Rattle.bson_value.specs.declared.unit.Unit.{Unit as DateUnit}
use Rattle.expr_tree.specs.Node.{Head, literal, field, root, var, remove, make, make_list, apply, every, some, choose, if_null, switch, bind, each, filter, reduce, date_part, date_add, date_diff, date_trunc, Node, node, Nodes, no_nodes, next}
use Rattle.expr_tree.specs.Forms.{Row, as_it_is, takes, condition, part_of, has, cases, variables, mapped, filtered, reduced, moved, between, cut, row_named, unit_named, has_sign, is_field_name, is_variable_name, is_root, is_remove, is_bound}

abbrev pub Names : Type 0
Names = List (List ℕ)

abbrev pub Fields : Type 0
Fields = List (List ℕ × Tree)

-- a document of one operator, which takes this, over the value
pub record IsOperator (t : Tree) (row : Row) (value : Tree) : Type 0 where
  pub name : List ℕ
  pub form : t ≡ doc (pair name value no_pairs)
  pub sign : has_sign name ≡ true
  pub named : row_named name ≡ Some row

-- of a document's fields, the value of that name is so
abbrev pub At : List ℕ → Fields → (Tree → Type 0) → Type 0
At n ps Is = (t : Tree) × (find n ps ≡ Some t) × Is t

-- an operator over a document of so many fields
abbrev pub IsNamed : Tree → Row → ℕ → Fields → Type 0
IsNamed t row n ps = IsOperator t row (doc (pairs_of ps)) × (length ps ≡ n)

-- a value that isn't a text with a sign, a document or an array
abbrev pub IsPlain : Tree → Type 0
IsPlain (leaf (text s)) = has_sign s ≡ false
IsPlain (leaf l) = Unit {0}
IsPlain (doc ps) = ⊥
IsPlain (list ts) = ⊥

-- a text with one sign: a path into the document
pub record IsField (t : Tree) (path : Steps) : Type 0 where
  pub words : List ℕ
  pub form : t ≡ leaf (text (36 ∷ words))
  pub one_sign : has_sign words ≡ false
  pub is_path : IsPathText words
  pub steps : pieces words ≡ path

-- a text with two signs: a variable, with a path into it where steps follow the name
pub record IsVariable (t : Tree) (name : List ℕ) (path : Option Steps) : Type 0 where
  pub words : List ℕ
  pub rest : Steps
  pub form : t ≡ leaf (text (36 ∷ 36 ∷ words))
  pub is_path : IsPathText words
  pub steps : pieces words ≡ name ∷ rest
  pub after : some_path rest ≡ path

abbrev pub IsNoList : Tree → Type 0
IsNoList (list ts) = ⊥
IsNoList t = Unit {0}

-- the operands of an operator that takes so many: in an array; where it takes just one, also bare
pub record AreOperands (t : Tree) (h : Head) (ts : List Tree) : Type 0 where
  pub value : Tree
  pub least : ℕ
  pub most : Option ℕ
  pub operator : IsOperator t (takes h least most) value
  pub enough : least ≤ length ts
  pub few : IfSome most (λ m. length ts ≤ m)
  pub form : (value ≡ list (trees_of ts)) ⊎ ((most ≡ Some 1) × (ts ≡ value ∷ []) × IsNoList value)

-- `as`, where it is there, else `this`
abbrev pub IsItemName : List ℕ → Fields → Type 0
IsItemName x ps = ((length ps ≡ 3) × At (codes "as") ps (λ t. t ≡ leaf (text x)) × (is_variable_name x ≡ true)) ⊎ ((length ps ≡ 2) × (x ≡ codes "this"))

-- the operand of a part of a date: `{date: e}`, or one operand
abbrev pub IsDateForm : Tree → Type 0
IsDateForm (doc (pair n t no_pairs)) = n ≡ codes "date"
IsDateForm t = ⊥

abbrev pub IsDateOperand : Tree → Tree → Type 0
IsDateOperand v t = (v ≡ doc (pair (codes "date") t no_pairs)) ⊎ (v ≡ list (tree t no_trees)) ⊎ ((v ≡ t) × IsNoList v × ¬ IsDateForm v)

-- a literal text that names the unit
abbrev pub IsUnit : DateUnit → Tree → Type 0
IsUnit u t = (s : List ℕ) × (t ≡ leaf (text s)) × (unit_named s ≡ Some u)

-- the variables of a `$let`: a document, whose names can be bound
pub record AreVariables (t : Tree) (xs : Names) (ts : List Tree) : Type 0 where
  pub fields : Fields
  pub form : t ≡ doc (pairs_of fields)
  pub names : map (λ p. p.0) fields ≡ xs
  pub values : map (λ p. p.1) fields ≡ ts
  pub each : list_all is_variable_name xs ≡ true

-- a document that an expression makes
pub record AreFields (t : Tree) (ns : Names) (ts : List Tree) : Type 0 where
  pub fields : Fields
  pub form : t ≡ doc (pairs_of fields)
  pub names : map (λ p. p.0) fields ≡ ns
  pub values : map (λ p. p.1) fields ≡ ts
  pub each : list_all is_field_name ns ≡ true

abbrev mutual
  pub Spells : Names → Tree → Node → Type 0
  Spells names t (node (literal v) no_nodes) = IsOperator t as_it_is v ⊎ (IsPlain t × (t ≡ v))
  Spells names t (node (field p) no_nodes) = IsField t p
  Spells names t (node (root p) no_nodes) = (x : List ℕ) × IsVariable t x p × (is_root x ≡ true)
  Spells names t (node (var x p) no_nodes) = IsVariable t x p × (is_root x ≡ false) × (is_remove x ≡ false) × (is_bound x names ≡ true)
  Spells names t (node remove no_nodes) = (x : List ℕ) × IsVariable t x None × (is_root x ≡ false) × (is_remove x ≡ true)
  Spells names t (node (make ns) es) = (ts : List Tree) × AreFields t ns ts × SpellAll names ts es
  Spells names t (node make_list es) = (ts : List Tree) × (t ≡ list (trees_of ts)) × SpellAll names ts es
  Spells names t (node (apply o) es) = (ts : List Tree) × AreOperands t (apply o) ts × SpellAll names ts es
  Spells names t (node every es) = (ts : List Tree) × AreOperands t every ts × SpellAll names ts es
  Spells names t (node some es) = (ts : List Tree) × AreOperands t some ts × SpellAll names ts es
  Spells names t (node if_null es) = (ts : List Tree) × AreOperands t if_null ts × SpellAll names ts es
  Spells names t (node choose (next a (next b (next c no_nodes)))) =
      ((x : Tree) × (y : Tree) × (z : Tree) × IsOperator t condition (list (tree x (tree y (tree z no_trees)))) × Spells names x a × Spells names y b × Spells names z c)
      ⊎ ((ps : Fields) × IsNamed t condition 3 ps × At (codes "if") ps (λ x. Spells names x a) × At (codes "then") ps (λ y. Spells names y b) × At (codes "else") ps (λ z. Spells names z c))
  Spells names t (node switch es) =
      (ps : Fields) × (bs : List Tree) × IsOperator t (has cases) (doc (pairs_of ps)) × At (codes "branches") ps (λ v. v ≡ list (trees_of bs)) × (0 < length bs) × SpellBranches names ps bs es
  Spells names t (node (bind xs) (next body es)) =
      (ps : Fields) × (ts : List Tree) × IsNamed t (has variables) 2 ps × At (codes "vars") ps (λ v. AreVariables v xs ts) × SpellAll names ts es × At (codes "in") ps (λ x. Spells (xs ++ names) x body)
  Spells names t (node (each x) (next input (next body no_nodes))) =
      (ps : Fields) × IsOperator t (has mapped) (doc (pairs_of ps)) × IsItemName x ps × At (codes "input") ps (λ y. Spells names y input) × At (codes "in") ps (λ y. Spells (x ∷ names) y body)
  Spells names t (node (filter x) (next input (next body no_nodes))) =
      (ps : Fields) × IsOperator t (has filtered) (doc (pairs_of ps)) × IsItemName x ps × At (codes "input") ps (λ y. Spells names y input) × At (codes "cond") ps (λ y. Spells (x ∷ names) y body)
  Spells names t (node reduce (next input (next first (next body no_nodes)))) =
      (ps : Fields) × IsNamed t (has reduced) 3 ps × At (codes "input") ps (λ y. Spells names y input) × At (codes "initialValue") ps (λ y. Spells names y first)
      × At (codes "in") ps (λ y. Spells (codes "value" ∷ codes "this" ∷ names) y body)
  Spells names t (node (date_part p) (next e no_nodes)) = (v : Tree) × (x : Tree) × IsOperator t (part_of p) v × IsDateOperand v x × Spells names x e
  Spells names t (node (date_add u back) (next start (next amount no_nodes))) =
      (ps : Fields) × IsNamed t (has (moved back)) 3 ps × At (codes "startDate") ps (λ y. Spells names y start) × At (codes "unit") ps (IsUnit u) × At (codes "amount") ps (λ y. Spells names y amount)
  Spells names t (node (date_diff u) (next start (next end no_nodes))) =
      (ps : Fields) × IsNamed t (has between) 3 ps × At (codes "startDate") ps (λ y. Spells names y start) × At (codes "endDate") ps (λ y. Spells names y end) × At (codes "unit") ps (IsUnit u)
  Spells names t (node (date_trunc u) (next e no_nodes)) =
      (ps : Fields) × IsNamed t (has cut) 2 ps × At (codes "date") ps (λ y. Spells names y e) × At (codes "unit") ps (IsUnit u)
  -- no value spells a tree with another number of parts
  Spells names t n = ⊥

  -- one expression for each value
  pub SpellAll : Names → List Tree → Nodes → Type 0
  SpellAll names [] no_nodes = Unit {0}
  SpellAll names (t ∷ ts) (next e es) = Spells names t e × SpellAll names ts es
  SpellAll names ts es = ⊥

  -- the branches of a `$switch` with these fields, and behind them its default, where there is one
  pub SpellBranches : Names → Fields → List Tree → Nodes → Type 0
  SpellBranches names ps [] no_nodes = length ps ≡ 1
  SpellBranches names ps [] (next e no_nodes) = (length ps ≡ 2) × At (codes "default") ps (λ y. Spells names y e)
  SpellBranches names ps (b ∷ bs) (next c (next e es)) =
      (qs : Fields) × (b ≡ doc (pairs_of qs)) × (length qs ≡ 2) × At (codes "case") qs (λ y. Spells names y c) × At (codes "then") qs (λ y. Spells names y e) × SpellBranches names ps bs es
  SpellBranches names ps bs es = ⊥

-- What is spelled is read so.
use Rattle.std.proofs.Common.{◌≡◌, ℕ, suc, ◌<◌, ◌≤◌, Bool, true, false, cond, List, [], ◌∷◌, ◌++◌, length, map, refl, sym, ap, ◌∙◌, arith, inl, inr}
use Rattle.std.specs.Prelude.{Option, Some, None, IfSome, ◌⊎◌, ◌&&◌, ◌==◌, not, codes}
use Rattle.std.specs.List.{list_all, list_any}
use Rattle.std.specs.Option.{option_map, option_and_then}
use Rattle.std.specs.Str.{bytes_eq}
use Rattle.std.proofs.lemmas.List.{append_assoc, append-nil}
use Rattle.std.proofs.lemmas.Bool.{le-leb, false_from_ne_true, eqb-true}
use Rattle.std.proofs.lemmas.Slice.Eq.{bytes_eq-Decides}
use Rattle.bson_value.specs.declared.unit.Unit.{Unit as DateUnit}
use Rattle.bson_value.specs.Pairs.{find}
use Rattle.bson_value.specs.Path.{some_path}
use Rattle.bson_value.specs.Paths.{Steps}
use Rattle.bson_value.specs.Tree.{least, null, int, long, text, bin, id, flag, date, stamp, greatest, Tree, leaf, doc, list, no_pairs, pair, no_trees, tree, pairs_of, trees_of}
use Rattle.expr_tree.specs.Forms.{Shape, Row, as_it_is, takes, condition, part_of, has, cases, variables, mapped, filtered, reduced, moved, between, cut, has_sign, is_field_name, is_variable_name, is_root, is_remove, is_bound}
use Rattle.expr_tree.specs.Node.{Head, literal, field, root, var, remove, make, make_list, apply, every, some, choose, if_null, switch, bind, each, filter, reduce, date_part, date_add, date_diff, date_trunc, Node, node, Nodes, no_nodes, next, nodes_of, branch_nodes, maybe_node}
use Rattle.expr_tree.specs.Spells.{Names, Fields, IsOperator, At, IsPlain, IsField, IsVariable, IsNoList, AreOperands, IsItemName, IsDateOperand, IsUnit, AreVariables, AreFields, Spells, SpellAll, SpellBranches}
use Rattle.expr_read.specs.Seen.{Seen, value_of, read_as, items_in, listed_fields}
use Rattle.expr_read.specs.Reading.{reading, seen_of, fields_seen, items_seen, by_row, operator_in, literal_of, single, named_reading, removed, at_name, all_from, named_from, with_operands, operands_from, is_few, bare, names_of, item_name, unit_in, date_reading, only_date, seen_fields, by_shape, variables_in, default_in, branch_reading, branches_from, cases_in, ◌>>=◌}
use Rattle.expr_read.proofs.PathTexts.{path_read, both}

pub some_same : {A : Type 0} (x y : A) → Some x ≡ Some y → x ≡ y
some_same x y e = cc

pub find_seen : (n : List ℕ) (ps : Fields) → option_map seen_of (find n ps) ≡ find n (fields_seen ps)
find_seen n [] = refl
find_seen n (p ∷ ps) = elim (bytes_eq p.0 n) as (λ b. option_map seen_of (cond b (Some p.1) (find n ps)) ≡ cond b (Some (seen_of p.1)) (find n (fields_seen ps))) [ true ↦ refl | false ↦ find_seen n ps ]

pub count_seen : (ps : Fields) → length ps ≡ length (fields_seen ps)
count_seen [] = refl
count_seen (p ∷ ps) = ap suc (count_seen ps)

pub value_seen : (t : Tree) → value_of (seen_of t) ≡ t
value_seen (leaf l) = refl
value_seen (doc ps) = refl
value_seen (list ts) = refl

operator_read : (t : Tree) (row : Row) (v : Tree) (names : Names) → IsOperator t row v → reading t names ≡ by_row row (seen_of v) names
operator_read t row v names o = rw (o.form, o.sign, o.named) refl

plain_read : (t : Tree) (names : Names) → IsPlain t → reading t names ≡ Some (literal_of t)
plain_read (leaf least) names h = refl
plain_read (leaf null) names h = refl
plain_read (leaf (int n)) names h = refl
plain_read (leaf (long n)) names h = refl
plain_read (leaf (text s)) names h = rw h refl
plain_read (leaf (bin k s)) names h = refl
plain_read (leaf (id s)) names h = refl
plain_read (leaf (flag b)) names h = refl
plain_read (leaf (date n)) names h = refl
plain_read (leaf (stamp n)) names h = refl
plain_read (leaf greatest) names h = refl
plain_read (doc ps) names h = absurd h
plain_read (list ts) names h = absurd h

literal_read : (t v : Tree) (names : Names) → IsOperator t as_it_is v ⊎ (IsPlain t × (t ≡ v)) → reading t names ≡ Some (single (literal v))
literal_read t v names (inl o) = operator_read t as_it_is v names o ∙ ap (λ w. Some (literal_of w)) (value_seen v)
literal_read t v names (inr h) = plain_read t names h.0 ∙ ap (λ w. Some (literal_of w)) h.1

field_read : (t : Tree) (p : Steps) (names : Names) → IsField t p → reading t names ≡ Some (single (field p))
field_read t p names f = rw (f.form, f.one_sign, path_read f.words p f.is_path f.steps) refl

variable_read : (t : Tree) (x : List ℕ) (p : Option Steps) (names : Names) (v : IsVariable t x p) → reading t names ≡ named_reading names (x ∷ v.rest)
variable_read t x p names v = rw (v.form, path_read v.words (x ∷ v.rest) v.is_path v.steps) refl

no_rest : (ss : Steps) → some_path ss ≡ None → removed ss ≡ Some (single remove)
no_rest [] h = refl
no_rest (s ∷ ss) h = absurd cc

root_read : (t : Tree) (x : List ℕ) (p : Option Steps) (names : Names) → IsVariable t x p → is_root x ≡ true → reading t names ≡ Some (single (root p))
root_read t x p names v r = variable_read t x p names v ∙ rw (r, v.after) refl

var_read : (t : Tree) (x : List ℕ) (p : Option Steps) (names : Names) → IsVariable t x p → is_root x ≡ false → is_remove x ≡ false → is_bound x names ≡ true → reading t names ≡ Some (single (var x p))
var_read t x p names v r m b = variable_read t x p names v ∙ rw (r, m, b, v.after) refl

remove_read : (t : Tree) (x : List ℕ) (names : Names) → IsVariable t x None → is_root x ≡ false → is_remove x ≡ true → reading t names ≡ Some (single remove)
remove_read t x names v r m = variable_read t x None names v ∙ rw (r, m) (no_rest v.rest v.after)

-- the expressions, as a list
pub listed : Nodes → List Node
listed no_nodes = []
listed (next e es) = e ∷ listed es

nodes_listed : (es : Nodes) → nodes_of (listed es) ≡ es
unfolding listed
nodes_listed no_nodes = refl
nodes_listed (next e es) = ap (next e) (nodes_listed es)

-- how many there are
as_many : (names : Names) (ts : List Tree) (es : Nodes) → SpellAll names ts es → length (listed es) ≡ length ts
unfolding listed
as_many names [] no_nodes h = refl
as_many names [] (next e es) h = absurd h
as_many names (t ∷ ts) no_nodes h = absurd h
as_many names (t ∷ ts) (next e es) h = ap suc (as_many names ts es h.1)

-- what an operator's operands are read as
no_list : (v : Tree) → IsNoList v → items_in (seen_of v) ≡ None
no_list (leaf l) h = refl
no_list (doc ps) h = refl
no_list (list ts) h = absurd h

few_enough : (most : Option ℕ) (n : ℕ) → IfSome most (λ m. n ≤ m) → is_few most n ≡ true
few_enough None n h = refl
few_enough (Some m) n h = le-leb n m h

counted : (h : Head) (low : ℕ) (most : Option ℕ) (ns : List Node) → low ≤ length ns → IfSome most (λ m. length ns ≤ m) → with_operands h low most ns ≡ Some (node h (nodes_of ns))
counted h low most ns l m = rw (le-leb low (length ns) l, few_enough most (length ns) m) refl

bare_read : (v : Tree) (names : Names) → bare (reading v names) ≡ all_from [] (items_seen (v ∷ [])) names
bare_read v names = refl

operands_read : (t : Tree) (h : Head) (ts : List Tree) (names : Names) (ns : List Node) → AreOperands t h ts → all_from [] (items_seen ts) names ≡ Some ns → length ns ≡ length ts → reading t names ≡ Some (node h (nodes_of ns))
operands_read t h ts names ns o r c =
    operator_read t (takes h o.least o.most) o.value names o.operator
    ∙ ap (option_and_then (with_operands h o.least o.most)) (the_operands o.form)
    ∙ counted h o.least o.most ns (rw c o.enough) (rw c o.few)
  where
    the_operands : (o.value ≡ list (trees_of ts)) ⊎ ((o.most ≡ Some 1) × (ts ≡ o.value ∷ []) × IsNoList o.value) → operands_from o.most (items_in (seen_of o.value)) (seen_of o.value) names ≡ Some ns
    the_operands (inl e) = rw e r
    the_operands (inr e) = rw (no_list o.value e.2, e.0) (bare_read o.value names ∙ ap (λ us. all_from [] (items_seen us) names) (sym e.1) ∙ r)

-- at a name
at_read : (n : List ℕ) (ps : Fields) (names : Names) (e : Node) (t : Tree) → find n ps ≡ Some t → reading t names ≡ Some e → at_name n (fields_seen ps) names ≡ Some e
at_read n ps names e t f r = ap (λ o. o >>= λ s. read_as s names) (sym (find_seen n ps) ∙ ap (option_map seen_of) f) ∙ r

no_sign : (n : List ℕ) → is_field_name n ≡ true → has_sign n ≡ false
no_sign n h = elim (has_sign n) as (λ b. (not b && not (list_any (λ c. c == 46) n)) ≡ true → b ≡ false) [ true ↦ λ e. absurd cc | false ↦ λ e. refl ] h

no_operator : (ps : Fields) → list_all is_field_name (map (λ p. p.0) ps) ≡ true → operator_in (fields_seen ps) ≡ None
no_operator [] h = refl
no_operator (p ∷ []) h = rw (no_sign p.0 (both (is_field_name p.0) true h).0) refl
no_operator (p ∷ q ∷ ps) h = refl

fields_read : (t : Tree) (ns : Names) (ts : List Tree) (names : Names) (es : List Node) (f : AreFields t ns ts) → named_from is_field_name ([], []) (fields_seen f.fields) names ≡ Some (ns, es) → reading t names ≡ Some (node (make ns) (nodes_of es))
fields_read t ns ts names es f r = rw (f.form, no_operator f.fields (rw f.names f.each), r) refl

-- lengths
counts : (ps : Fields) (n : ℕ) → length ps ≡ n → length (fields_seen ps) ≡ n
counts ps n h = sym (count_seen ps) ∙ h

item_read : (x : List ℕ) (ps : Fields) → IsItemName x ps → item_name (fields_seen ps) ≡ Some x
item_read x ps (inl h) = rw (counts ps 3 h.0, sym (find_seen (codes "as") ps) ∙ ap (option_map seen_of) h.1.1, h.1.2, h.2) refl
item_read x ps (inr h) = rw (counts ps 2 h.0) (ap Some (sym h.1))

unit_read : (u : DateUnit) (ps : Fields) → At (codes "unit") ps (IsUnit u) → unit_in (fields_seen ps) ≡ Some u
unit_read u ps a = rw (sym (find_seen (codes "unit") ps) ∙ ap (option_map seen_of) a.1, a.2.1) a.2.2

not_named : (n m : List ℕ) → ¬ (n ≡ m) → bytes_eq n m ≡ false
not_named n m h = false_from_ne_true (bytes_eq n m) (λ e. h (grind (arith, bytes_eq-Decides n m, e)))

pub not_one : (n : ℕ) → (suc (suc n) == 1) ≡ false
not_one n = false_from_ne_true (suc (suc n) == 1) (λ e. omega (arith, eqb-true (suc (suc n)) 1 e))

pub not_only : (s : Seen) (b : Bool) (o : Option Seen) → b ≡ false → only_date s b o ≡ s
not_only s b None h = refl
not_only s b (Some d) h = rw h refl

date_form : (v x : Tree) (names : Names) → IsDateOperand v x → date_reading (seen_of v) names ≡ reading x names
date_form v x names (inl e) = rw e refl
date_form v x names (inr (inl e)) = rw e refl
date_form (leaf l) x names (inr (inr h)) = rw (← h.0) refl
date_form (list ts) x names (inr (inr h)) = absurd h.1
date_form (doc no_pairs) x names (inr (inr h)) = rw (← h.0) refl
date_form (doc (pair n t no_pairs)) x names (inr (inr h)) = rw (← h.0, not_named n (codes "date") h.2) refl
date_form (doc (pair n t (pair m u ps))) x names (inr (inr h)) =
    rw (← h.0) (ap (λ s. read_as s names) (not_only (seen_of (doc (pair n t (pair m u ps)))) (suc (suc (length (listed_fields (seen_fields ps)))) == 1) (find (codes "date") ((n, seen_of t) ∷ (m, seen_of u) ∷ listed_fields (seen_fields ps))) (not_one (length (listed_fields (seen_fields ps))))))

-- an operator over the fields of a document
shape_read : (t : Tree) (shape : Shape) (ps : Fields) (names : Names) → IsOperator t (has shape) (doc (pairs_of ps)) → reading t names ≡ by_shape shape (fields_seen ps) names
shape_read t shape ps names o = operator_read t (has shape) (doc (pairs_of ps)) names o

pub variables_names : (ps : Fields) → names_of (fields_seen ps) ≡ map (λ p. p.0) ps
variables_names [] = refl
variables_names (p ∷ ps) = ap (λ ns. p.0 ∷ ns) (variables_names ps)

let_read : (ps : Fields) (names xs : Names) (ts : List Tree) (t : Tree) (ns : List Node) (body : Node) (v : AreVariables t xs ts) → length ps ≡ 2 → find (codes "vars") ps ≡ Some t
    → named_from is_variable_name ([], []) (fields_seen v.fields) names ≡ Some (xs, ns) → at_name (codes "in") (fields_seen ps) (xs ++ names) ≡ Some body
    → variables_in (fields_seen ps) names ≡ Some (node (bind xs) (next body (nodes_of ns)))
let_read ps names xs ts t ns body v l f b i =
    rw (counts ps 2 l, sym (find_seen (codes "vars") ps) ∙ ap (option_map seen_of) f, v.form, b, variables_names v.fields, v.names, i) refl

one_default : (ps : Fields) (names : Names) → length ps ≡ 1 → default_in (fields_seen ps) names ≡ Some None
one_default ps names l = rw (counts ps 1 l) refl

two_default : (ps : Fields) (names : Names) (e : Node) → length ps ≡ 2 → at_name (codes "default") (fields_seen ps) names ≡ Some e → default_in (fields_seen ps) names ≡ Some (Some e)
two_default ps names e l d = rw (counts ps 2 l, d) refl

-- the branches, and the default behind them
pub branches_of : List Tree → Nodes → List (Node × Node)
branches_of [] es = []
branches_of (b ∷ bs) (next c (next e es)) = (c, e) ∷ branches_of bs es
branches_of (b ∷ bs) es = []

pub default_of : List Tree → Nodes → Option Node
default_of [] no_nodes = None
default_of [] (next e es) = Some e
default_of (b ∷ bs) (next c (next e es)) = default_of bs es
default_of (b ∷ bs) es = None

branches_again : (names : Names) (ps : Fields) (bs : List Tree) (es : Nodes) → SpellBranches names ps bs es → branch_nodes (branches_of bs es) (maybe_node (default_of bs es)) ≡ es
unfolding branches_of default_of
branches_again names ps [] no_nodes h = refl
branches_again names ps [] (next e no_nodes) h = refl
branches_again names ps [] (next e (next f es)) h = absurd h
branches_again names ps (b ∷ bs) no_nodes h = absurd h
branches_again names ps (b ∷ bs) (next c no_nodes) h = absurd h
branches_again names ps (b ∷ bs) (next c (next e es)) h = ap (λ ns. next c (next e ns)) (branches_again names ps bs es (rest names ps b bs c e es h))
  where
    rest : (names : Names) (ps : Fields) (b : Tree) (bs : List Tree) (c e : Node) (es : Nodes) → SpellBranches names ps (b ∷ bs) (next c (next e es)) → SpellBranches names ps bs es
    rest names ps b bs c e es h = h.5

branch_read : (b : Tree) (qs : Fields) (names : Names) (c e : Node) → b ≡ doc (pairs_of qs) → length qs ≡ 2 → at_name (codes "case") (fields_seen qs) names ≡ Some c → at_name (codes "then") (fields_seen qs) names ≡ Some e → branch_reading (seen_of b) names ≡ Some (c, e)
branch_read b qs names c e f l x y = rw (f, counts qs 2 l, x, y) refl

cases_read : (ps : Fields) (names : Names) (bs : List Tree) (cs : List (Node × Node)) (d : Option Node) → At (codes "branches") ps (λ v. v ≡ list (trees_of bs)) → 0 < length bs → branches_from [] (items_seen bs) names ≡ Some cs → default_in (fields_seen ps) names ≡ Some d → cases_in (fields_seen ps) names ≡ Some (node switch (branch_nodes cs (maybe_node d)))
cases_read ps names [] cs d a l b e = absurd (let f : ⊥ = omega (arith, l) in f)
cases_read ps names (t ∷ ts) cs d a l b e = rw (sym (find_seen (codes "branches") ps) ∙ ap (option_map seen_of) a.1, a.2, some_items (length (items_seen ts)), b, e) refl
  where
    some_items : (n : ℕ) → (suc n == 0) ≡ false
    some_items n = false_from_ne_true (suc n == 0) (λ e. omega (arith, eqb-true (suc n) 0 e))

spelled_operands : (h : Head) (es : Nodes) (names : Names) (t : Tree) (ts : List Tree) → AreOperands t h ts → SpellAll names ts es → all_from [] (items_seen ts) names ≡ Some (listed es) → reading t names ≡ Some (node h es)
spelled_operands h es names t ts o s r = operands_read t h ts names (listed es) o r (as_many names ts es s) ∙ ap (λ ms. Some (node h ms)) (nodes_listed es)

mutual
  unfolding listed branches_of default_of

  -- what is spelled is read so
  pub only : (n : Node) (names : Names) (t : Tree) → Spells names t n → reading t names ≡ Some n
  only (node (literal v) no_nodes) names t h = literal_read t v names h
  only (node (field p) no_nodes) names t h = field_read t p names h
  only (node (root p) no_nodes) names t h = root_read t h.0 p names h.1 h.2
  only (node (var x p) no_nodes) names t h = var_read t x p names h.0 h.1 h.2 h.3
  only (node remove no_nodes) names t h = remove_read t h.0 names h.1 h.2 h.3
  only (node (make ns) es) names t h =
      let f = h.1 in
      fields_read t ns h.0 names (listed es) f (only_named es is_field_name ([], []) f.fields names (rw f.names f.each) (rw f.values h.2) ∙ ap (λ ms. Some (ms, listed es)) f.names)
      ∙ ap (λ ms. Some (node (make ns) ms)) (nodes_listed es)
  only (node make_list es) names t h = rw (h.1, only_all es [] h.0 names h.2) (ap (λ ms. Some (node make_list ms)) (nodes_listed es))
  only (node (apply o) es) names t h = spelled_operands (apply o) es names t h.0 h.1 h.2 (only_all es [] h.0 names h.2)
  only (node every es) names t h = spelled_operands every es names t h.0 h.1 h.2 (only_all es [] h.0 names h.2)
  only (node some es) names t h = spelled_operands some es names t h.0 h.1 h.2 (only_all es [] h.0 names h.2)
  only (node if_null es) names t h = spelled_operands if_null es names t h.0 h.1 h.2 (only_all es [] h.0 names h.2)
  only (node choose (next a (next b (next c no_nodes)))) names t (inl h) =
      operator_read t condition (list (tree h.0 (tree h.1 (tree h.2 no_trees)))) names h.3 ∙ rw (only a names h.0 h.4, only b names h.1 h.5, only c names h.2 h.6) refl
  only (node choose (next a (next b (next c no_nodes)))) names t (inr h) =
      let ps = h.0 in
      operator_read t condition (doc (pairs_of ps)) names h.1.0
      ∙ rw (counts ps 3 h.1.1, at_read (codes "if") ps names a h.2.0 h.2.1 (only a names h.2.0 h.2.2), at_read (codes "then") ps names b h.3.0 h.3.1 (only b names h.3.0 h.3.2), at_read (codes "else") ps names c h.4.0 h.4.1 (only c names h.4.0 h.4.2)) refl
  only (node switch es) names t h =
      let ps = h.0 in
      shape_read t cases ps names h.2
      ∙ cases_read ps names h.1 (branches_of h.1 es) (default_of h.1 es) h.3 h.4 (only_branches es [] h.1 ps names h.5) (only_default es h.1 ps names h.5)
      ∙ ap (λ ms. Some (node switch ms)) (branches_again names ps h.1 es h.5)
  only (node (bind xs) (next body es)) names t h =
      let ps = h.0 in
      let v = h.3.2 in
      shape_read t variables ps names h.2.0
      ∙ let_read ps names xs h.1 h.3.0 (listed es) body v h.2.1 h.3.1
      (only_named es is_variable_name ([], []) v.fields names (rw v.names v.each) (rw v.values h.4) ∙ ap (λ ms. Some (ms, listed es)) v.names)
      (at_read (codes "in") ps (xs ++ names) body h.5.0 h.5.1 (only body (xs ++ names) h.5.0 h.5.2))
      ∙ ap (λ ms. Some (node (bind xs) (next body ms))) (nodes_listed es)
  only (node (each x) (next input (next body no_nodes))) names t h =
      let ps = h.0 in
      shape_read t mapped ps names h.1
      ∙ rw (item_read x ps h.2, at_read (codes "input") ps names input h.3.0 h.3.1 (only input names h.3.0 h.3.2), at_read (codes "in") ps (x ∷ names) body h.4.0 h.4.1 (only body (x ∷ names) h.4.0 h.4.2)) refl
  only (node (filter x) (next input (next body no_nodes))) names t h =
      let ps = h.0 in
      shape_read t filtered ps names h.1
      ∙ rw (item_read x ps h.2, at_read (codes "input") ps names input h.3.0 h.3.1 (only input names h.3.0 h.3.2), at_read (codes "cond") ps (x ∷ names) body h.4.0 h.4.1 (only body (x ∷ names) h.4.0 h.4.2)) refl
  only (node reduce (next input (next first (next body no_nodes)))) names t h =
      let ps = h.0 in
      let inner : Names = codes "value" ∷ codes "this" ∷ names in
      shape_read t reduced ps names h.1.0
      ∙ rw (counts ps 3 h.1.1, at_read (codes "input") ps names input h.2.0 h.2.1 (only input names h.2.0 h.2.2), at_read (codes "initialValue") ps names first h.3.0 h.3.1 (only first names h.3.0 h.3.2), at_read (codes "in") ps inner body h.4.0 h.4.1 (only body inner h.4.0 h.4.2)) refl
  only (node (date_part p) (next e no_nodes)) names t h =
      operator_read t (part_of p) h.0 names h.2 ∙ rw (date_form h.0 h.1 names h.3, only e names h.1 h.4) refl
  only (node (date_add u back) (next start (next amount no_nodes))) names t h =
      let ps = h.0 in
      shape_read t (moved back) ps names h.1.0
      ∙ rw (counts ps 3 h.1.1, unit_read u ps h.3, at_read (codes "startDate") ps names start h.2.0 h.2.1 (only start names h.2.0 h.2.2), at_read (codes "amount") ps names amount h.4.0 h.4.1 (only amount names h.4.0 h.4.2)) refl
  only (node (date_diff u) (next start (next end no_nodes))) names t h =
      let ps = h.0 in
      shape_read t between ps names h.1.0
      ∙ rw (counts ps 3 h.1.1, unit_read u ps h.4, at_read (codes "startDate") ps names start h.2.0 h.2.1 (only start names h.2.0 h.2.2), at_read (codes "endDate") ps names end h.3.0 h.3.1 (only end names h.3.0 h.3.2)) refl
  only (node (date_trunc u) (next e no_nodes)) names t h =
      let ps = h.0 in
      shape_read t cut ps names h.1.0
      ∙ rw (counts ps 2 h.1.1, unit_read u ps h.3, at_read (codes "date") ps names e h.2.0 h.2.1 (only e names h.2.0 h.2.2)) refl
  only n names t h = absurd h

  only_all : (es : Nodes) (front : List Node) (ts : List Tree) (names : Names) → SpellAll names ts es → all_from front (items_seen ts) names ≡ Some (front ++ listed es)
  only_all no_nodes front [] names h = ap Some (sym (append-nil front))
  only_all no_nodes front (t ∷ ts) names h = absurd h
  only_all (next e es) front [] names h = absurd h
  only_all (next e es) front (t ∷ ts) names h = rw (only e names t h.0) (only_all es (front ++ e ∷ []) ts names h.1 ∙ ap Some (append_assoc front (e ∷ []) (listed es)))

  only_named : (es : Nodes) (is_name : List ℕ → Bool) (front : Names × List Node) (ps : Fields) (names : Names) → list_all is_name (map (λ p. p.0) ps) ≡ true → SpellAll names (map (λ p. p.1) ps) es
      → named_from is_name front (fields_seen ps) names ≡ Some (front.0 ++ map (λ p. p.0) ps, front.1 ++ listed es)
  only_named no_nodes is_name front [] names l h = ap Some (λ i. (sym (append-nil front.0) i, sym (append-nil front.1) i))
  only_named no_nodes is_name front (p ∷ ps) names l h = absurd h
  only_named (next e es) is_name front [] names l h = absurd h
  only_named (next e es) is_name front (p ∷ ps) names l h =
      let b = both (is_name p.0) (list_all is_name (map (λ q. q.0) ps)) l in
      rw (b.0, only e names p.1 h.0)
      (only_named es is_name (front.0 ++ p.0 ∷ [], front.1 ++ e ∷ []) ps names b.1 h.1
      ∙ ap Some (λ i. (append_assoc front.0 (p.0 ∷ []) (map (λ q. q.0) ps) i, append_assoc front.1 (e ∷ []) (listed es) i)))

  only_branches : (es : Nodes) (front : List (Node × Node)) (bs : List Tree) (ps : Fields) (names : Names) → SpellBranches names ps bs es → branches_from front (items_seen bs) names ≡ Some (front ++ branches_of bs es)
  only_branches no_nodes front [] ps names h = ap Some (sym (append-nil front))
  only_branches (next e es) front [] ps names h = ap Some (sym (append-nil front))
  only_branches no_nodes front (b ∷ bs) ps names h = absurd h
  only_branches (next c no_nodes) front (b ∷ bs) ps names h = absurd h
  only_branches (next c (next e es)) front (b ∷ bs) ps names h =
      let qs = h.0 in
      rw (branch_read b qs names c e h.1 h.2 (at_read (codes "case") qs names c h.3.0 h.3.1 (only c names h.3.0 h.3.2)) (at_read (codes "then") qs names e h.4.0 h.4.1 (only e names h.4.0 h.4.2)))
      (only_branches es (front ++ (c, e) ∷ []) bs ps names h.5 ∙ ap Some (append_assoc front ((c, e) ∷ []) (branches_of bs es)))

  only_default : (es : Nodes) (bs : List Tree) (ps : Fields) (names : Names) → SpellBranches names ps bs es → default_in (fields_seen ps) names ≡ Some (default_of bs es)
  only_default no_nodes [] ps names h = one_default ps names h
  only_default (next e no_nodes) [] ps names h = two_default ps names e h.0 (at_read (codes "default") ps names e h.1.0 h.1.1 (only e names h.1.0 h.1.2))
  only_default (next e (next f es)) [] ps names h = absurd h
  only_default no_nodes (b ∷ bs) ps names h = absurd h
  only_default (next c no_nodes) (b ∷ bs) ps names h = absurd h
  only_default (next c (next e es)) (b ∷ bs) ps names h = only_default es bs ps names h.5

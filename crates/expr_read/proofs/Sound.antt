-- What is read is spelled so.
use Rattle.std.proofs.Common.{◌≡◌, ℕ, suc, ◌≤◌, Bool, true, false, cond, List, [], ◌∷◌, ◌++◌, length, map, refl, sym, ap, ◌∙◌, arith, inl, inr, subst}
use Rattle.std.specs.Prelude.{Option, Some, None, IfSome, ◌⊎◌, ◌&&◌, ◌==◌, not, nat_le, codes}
use Rattle.std.specs.List.{list_all}
use Rattle.std.specs.Option.{option_map}
use Rattle.std.specs.Str.{bytes_eq}
use Rattle.std.proofs.lemmas.List.{append_assoc, append-nil}
use Rattle.std.proofs.lemmas.Bool.{leb-true, eqb-true}
use Rattle.std.proofs.lemmas.Slice.Eq.{bytes_eq-Decides}
use Rattle.bson_value.specs.declared.part.Part.{Part}
use Rattle.bson_value.specs.declared.unit.Unit.{Unit as DateUnit}
use Rattle.bson_value.specs.Pairs.{find}
use Rattle.bson_value.specs.Path.{some_path}
use Rattle.bson_value.specs.Paths.{Steps}
use Rattle.bson_value.specs.Tree.{Leaf, least, null, int, long, text, bin, id, flag, date, stamp, greatest, Tree, leaf, doc, list, Pairs, no_pairs, pair, Trees, no_trees, tree, pairs_of, trees_of, entries, members}
use Rattle.expr_tree.specs.Forms.{Shape, Row, as_it_is, takes, condition, part_of, has, cases, variables, mapped, filtered, reduced, moved, between, cut, row_named, unit_named, operators, has_sign, is_field_name, is_variable_name, is_root, is_remove, is_bound}
use Rattle.expr_tree.specs.Node.{Head, literal, field, root, var, remove, make, make_list, apply, every, some, choose, if_null, switch, bind, each, filter, reduce, date_part, date_add, date_diff, date_trunc, Node, node, Nodes, no_nodes, next, nodes_of, branch_nodes, maybe_node}
use Rattle.expr_tree.specs.Spells.{Names, Fields, IsOperator, At, IsPlain, IsVariable, IsNoList, AreOperands, IsItemName, IsDateOperand, IsUnit, Spells, SpellAll, SpellBranches}
use Rattle.expr_read.specs.Seen.{Seen, value_of, read_as, fields_in, items_in, listed_fields, listed_items}
use Rattle.expr_read.specs.Reading.{reading, seen_of, seen_fields, seen_items, fields_seen, by_row, by_shape, list_reading, literal_of, single, text_reading, sign_reading, field_reading, named_reading, removed, path_in, at_name, all_from, named_from, with_operands, operands_reading, only_if, is_few, is_one, bare, names_of, made_reading, item_name, unit_in, date_reading, variables_in, default_in, branch_reading, branches_from, cases_in, three_parts, two_parts, one_part, listed_condition, named_condition, condition_from, reduced_in, mapped_in, filtered_in, moved_in, between_in, cut_in, text_of, chosen_name, part_reading, variables_over, branches_reading, branches_at, branch_in, doc_by, ◌>>=◌}
use Rattle.expr_read.proofs.PathTexts.{path_is, both}
use Rattle.expr_read.proofs.Spelled.{find_seen, count_seen, value_seen, variables_names, not_one, not_only, some_same}

bind_some : {A B : Type 0} (o : Option A) (f : A → Option B) (y : B) → (o >>= f) ≡ Some y → (x : A) × (o ≡ Some x) × (f x ≡ Some y)
bind_some None f y e = absurd cc
bind_some (Some x) f y e = (x, refl, e)

only_some : {A : Type 0} (b : Bool) (o : Option A) (y : A) → only_if b o ≡ Some y → (b ≡ true) × (o ≡ Some y)
only_some true o y e = (refl, e)
only_some false o y e = absurd cc

decided : (b : Bool) → (b ≡ true) ⊎ (b ≡ false)
decided true = inl refl
decided false = inr refl

-- a text with two signs, behind them
module _ (names : Names) (words : List ℕ) (n : Node) where
  the_text : Tree
  the_text = leaf (text (36 ∷ 36 ∷ words))

  variable_spelled : (x : List ℕ) (ss : Steps) (p : Option Steps) → path_in words ≡ Some (x ∷ ss) → some_path ss ≡ p → IsVariable (leaf (text (36 ∷ 36 ∷ words))) x p
  variable_spelled x ss p e f = let h = path_is words (x ∷ ss) e in record { words = words; rest = ss; form = refl; is_path = h.0; steps = h.1; after = f }

  removed_spelled : (x : List ℕ) (ss : Steps) → path_in words ≡ Some (x ∷ ss) → is_root x ≡ false → is_remove x ≡ true → removed ss ≡ Some n → Spells names (leaf (text (36 ∷ 36 ∷ words))) n
  removed_spelled x [] e r m f = subst (Spells names (leaf (text (36 ∷ 36 ∷ words)))) (some_same (single remove) n f) (x, variable_spelled x [] None e refl, r, m)
  removed_spelled x (s ∷ ss) e r m f = absurd cc

  named_spelled : (p : Steps) → path_in words ≡ Some p → named_reading names p ≡ Some n → Spells names (leaf (text (36 ∷ 36 ∷ words))) n
  named_spelled [] e f = absurd cc
  named_spelled (x ∷ ss) e f = elim (decided (is_root x)) [
    | inl r ↦ subst (Spells names (leaf (text (36 ∷ 36 ∷ words)))) (some_same (single (root (some_path ss))) n (rw r at f)) (x, variable_spelled x ss (some_path ss) e refl, r)
    | inr r ↦ elim (decided (is_remove x)) [
      | inl m ↦ removed_spelled x ss e r m (rw (r, m) at f)
      | inr m ↦
          let b = only_some (is_bound x names) (Some (single (var x (some_path ss)))) n (rw (r, m) at f) in
          subst (Spells names (leaf (text (36 ∷ 36 ∷ words)))) (some_same (single (var x (some_path ss))) n b.1) (variable_spelled x ss (some_path ss) e refl, r, m, b.0)
    ]
  ]

field_spelled : (names : Names) (words : List ℕ) (n : Node) → has_sign words ≡ false → field_reading words ≡ Some n → Spells names (leaf (text (36 ∷ words))) n
field_spelled names words n s e =
    let p = bind_some (path_in words) (λ q. Some (single (field q))) n e in
    let h = path_is words p.0 p.1 in
    subst (Spells names (leaf (text (36 ∷ words)))) (some_same (single (field p.0)) n p.2) (record { words = words; form = refl; one_sign = s; is_path = h.0; steps = h.1 })

sign_spelled : (names : Names) (words : List ℕ) (n : Node) → sign_reading words names ≡ Some n → Spells names (leaf (text (36 ∷ words))) n
sign_spelled names [] n e = field_spelled names [] n refl e
sign_spelled names (b ∷ bs) n e = elim (decided (b == 36)) [
  | inl s ↦
      let p = bind_some (path_in bs) (named_reading names) n (rw s at e) in
      rw (eqb-true b 36 s) (named_spelled names bs n p.0 p.1 p.2)
  | inr s ↦ field_spelled names (b ∷ bs) n s (rw s at e)
]

text_spelled : (names : Names) (s : List ℕ) (n : Node) → text_reading s names ≡ Some n → Spells names (leaf (text s)) n
text_spelled names [] n e = subst (Spells names (leaf (text []))) (some_same (literal_of (leaf (text []))) n e) (inr (refl, refl))
text_spelled names (b ∷ bs) n e = elim (decided (b == 36)) [
  | inl s ↦ rw (eqb-true b 36 s) (sign_spelled names bs n (rw s at e))
  | inr s ↦ subst (Spells names (leaf (text (b ∷ bs)))) (some_same (literal_of (leaf (text (b ∷ bs)))) n (rw s at e)) (inr (s, refl))
]

plain_spelled : (names : Names) (t : Tree) (n : Node) → IsPlain t → Some (literal_of t) ≡ Some n → Spells names t n
plain_spelled names t n p e = subst (Spells names t) (some_same (literal_of t) n e) (inr (p, refl))

leaf_spelled : (l : Leaf) (names : Names) (n : Node) → reading (leaf l) names ≡ Some n → Spells names (leaf l) n
leaf_spelled least names n e = plain_spelled names (leaf least) n tt e
leaf_spelled null names n e = plain_spelled names (leaf null) n tt e
leaf_spelled (int i) names n e = plain_spelled names (leaf (int i)) n tt e
leaf_spelled (long i) names n e = plain_spelled names (leaf (long i)) n tt e
leaf_spelled (text s) names n e = text_spelled names s n e
leaf_spelled (bin k s) names n e = plain_spelled names (leaf (bin k s)) n tt e
leaf_spelled (id s) names n e = plain_spelled names (leaf (id s)) n tt e
leaf_spelled (flag b) names n e = plain_spelled names (leaf (flag b)) n tt e
leaf_spelled (date i) names n e = plain_spelled names (leaf (date i)) n tt e
leaf_spelled (stamp i) names n e = plain_spelled names (leaf (stamp i)) n tt e
leaf_spelled greatest names n e = plain_spelled names (leaf greatest) n tt e

-- the law holds of a value and of all that is in it
abbrev Law : Tree → Type 0
Law t = (names : Names) (n : Node) → reading t names ≡ Some n → Spells names t n

abbrev mutual
  Good : Tree → Type 0
  Good (leaf l) = Law (leaf l)
  Good (doc ps) = Law (doc ps) × GoodPairs ps
  Good (list ts) = Law (list ts) × GoodTrees ts

  GoodPairs : Pairs → Type 0
  GoodPairs no_pairs = Unit {0}
  GoodPairs (pair n t ps) = Good t × GoodPairs ps

  GoodTrees : Trees → Type 0
  GoodTrees no_trees = Unit {0}
  GoodTrees (tree t ts) = Good t × GoodTrees ts

law_of : (t : Tree) → Good t → Law t
law_of (leaf l) g = g
law_of (doc ps) g = g.0
law_of (list ts) g = g.0

found_good : (k : List ℕ) (ps : Fields) (t : Tree) → GoodPairs (pairs_of ps) → find k ps ≡ Some t → Good t
found_good k [] t g e = absurd cc
found_good k (p ∷ ps) t g e = elim (bytes_eq p.0 k) as (λ b. cond b (Some p.1) (find k ps) ≡ Some t → Good t) [ true ↦ λ h. subst Good (some_same p.1 t h) g.0 | false ↦ λ h. found_good k ps t g.1 h ] e

at_found : (k : List ℕ) (ps : Fields) (names : Names) (e : Node) → GoodPairs (pairs_of ps) → (o : Option Tree) → find k ps ≡ o → (option_map seen_of o >>= λ s. read_as s names) ≡ Some e → At k ps (λ y. Spells names y e)
at_found k ps names e g None f h = absurd cc
at_found k ps names e g (Some t) f h = (t, f, law_of t (found_good k ps t g f) names e h)

at_spelled : (k : List ℕ) (ps : Fields) (names : Names) (e : Node) → GoodPairs (pairs_of ps) → at_name k (fields_seen ps) names ≡ Some e → At k ps (λ y. Spells names y e)
at_spelled k ps names e g h = at_found k ps names e g (find k ps) refl (ap (λ o. o >>= λ s. read_as s names) (find_seen k ps) ∙ h)

at_other : (k : List ℕ) (ps : Fields) (names others : Names) (e : Node) → names ≡ others → GoodPairs (pairs_of ps) → at_name k (fields_seen ps) names ≡ Some e → At k ps (λ y. Spells others y e)
at_other k ps names others e s g h = at_spelled k ps others e g (ap (at_name k (fields_seen ps)) (sym s) ∙ h)

counted : (ps : Fields) (k : ℕ) → (length (fields_seen ps) == k) ≡ true → length ps ≡ k
counted ps k h = count_seen ps ∙ eqb-true (length (fields_seen ps)) k h

-- all of them
all_spelled : (ts : Trees) (names : Names) (front ns : List Node) → GoodTrees ts → all_from front (listed_items (seen_items ts)) names ≡ Some ns → (ms : List Node) × (front ++ ms ≡ ns) × SpellAll names (members ts) (nodes_of ms)
all_spelled no_trees names front ns g e = ([], append-nil front ∙ some_same front ns e, tt)
all_spelled (tree t ts) names front ns g e =
    let h = bind_some (reading t names) (λ n. all_from (front ++ n ∷ []) (listed_items (seen_items ts)) names) ns e in
    let r = all_spelled ts names (front ++ h.0 ∷ []) ns g.1 h.2 in
    (h.0 ∷ r.0, sym (append_assoc front (h.0 ∷ []) r.0) ∙ r.1, (law_of t g.0 names h.0 h.1, r.2))

named_spells : (is_name : List ℕ → Bool) (ps : Fields) (names : Names) (front r : Names × List Node) → GoodPairs (pairs_of ps) → named_from is_name front (fields_seen ps) names ≡ Some r
    → (ms : List Node) × ((front.0 ++ map (λ p. p.0) ps, front.1 ++ ms) ≡ r) × (list_all is_name (map (λ p. p.0) ps) ≡ true) × SpellAll names (map (λ p. p.1) ps) (nodes_of ms)
named_spells is_name [] names front r g e = ([], ((λ i. (append-nil front.0 i, append-nil front.1 i)) ∙ some_same front r e), refl, tt)
named_spells is_name (p ∷ ps) names front r g e =
    let b = only_some (is_name p.0) (reading p.1 names >>= λ n. named_from is_name (front.0 ++ p.0 ∷ [], front.1 ++ n ∷ []) (fields_seen ps) names) r e in
    let h = bind_some (reading p.1 names) (λ n. named_from is_name (front.0 ++ p.0 ∷ [], front.1 ++ n ∷ []) (fields_seen ps) names) r b.1 in
    let q = named_spells is_name ps names (front.0 ++ p.0 ∷ [], front.1 ++ h.0 ∷ []) r g.1 h.2 in
    (h.0 ∷ q.0, ((λ i. (sym (append_assoc front.0 (p.0 ∷ []) (map (λ z. z.0) ps)) i, sym (append_assoc front.1 (h.0 ∷ []) q.0) i)) ∙ q.1), rw b.0 q.2, (law_of p.1 g.0 names h.0 h.1, q.3))

-- documents as lists of fields, arrays as lists of items
pairs_again : (ps : Pairs) → pairs_of (entries ps) ≡ ps
pairs_again no_pairs = refl
pairs_again (pair n t ps) = ap (pair n t) (pairs_again ps)

trees_again : (ts : Trees) → trees_of (members ts) ≡ ts
trees_again no_trees = refl
trees_again (tree t ts) = ap (tree t) (trees_again ts)

make_spelled : (ps : Fields) (names : Names) (n : Node) → GoodPairs (pairs_of ps) → made_reading (fields_seen ps) names ≡ Some n → Spells names (doc (pairs_of ps)) n
make_spelled ps names n g e =
    let h = bind_some (named_from is_field_name ([], []) (fields_seen ps) names) (λ r. Some (node (make r.0) (nodes_of r.1))) n e in
    let q = named_spells is_field_name ps names ([], []) h.0 g h.1 in
    let made : node (make (map (λ p. p.0) ps)) (nodes_of q.0) ≡ n = ap (λ (r : Names × List Node). node (make r.0) (nodes_of r.1)) q.1 ∙ some_same (node (make h.0.0) (nodes_of h.0.1)) n h.2 in
    subst (Spells names (doc (pairs_of ps))) made (map (λ p. p.1) ps, record { fields = ps; form = refl; names = refl; values = refl; each = q.2 }, q.3)

list_spelled : (ts : Trees) (names : Names) (n : Node) → GoodTrees ts → list_reading (listed_items (seen_items ts)) names ≡ Some n → Spells names (list ts) n
list_spelled ts names n g e =
    let h = bind_some (all_from [] (listed_items (seen_items ts)) names) (λ ns. Some (node make_list (nodes_of ns))) n e in
    let q = all_spelled ts names [] h.0 g h.1 in
    let made : node make_list (nodes_of q.0) ≡ n = ap (λ ns. node make_list (nodes_of ns)) q.1 ∙ some_same (node make_list (nodes_of h.0)) n h.2 in
    subst (Spells names (list ts)) made (members ts, ap list (sym (trees_again ts)), q.2)

-- the heads of operators that take operands
is_kind : Head → Bool
is_kind (apply o) = true
is_kind every = true
is_kind some = true
is_kind if_null = true
is_kind h = false

fits : Row → Bool
fits (takes h low most) = is_kind h
fits row = true

found_fits : (k : List ℕ) (rows : List (List ℕ × Row)) (row : Row) → list_all (λ r. fits r.1) rows ≡ true → find k rows ≡ Some row → fits row ≡ true
found_fits k [] row h e = absurd cc
found_fits k (r ∷ rows) row h e =
    let b = both (fits r.1) (list_all (λ q. fits q.1) rows) h in
    elim (bytes_eq r.0 k) as (λ b. cond b (Some r.1) (find k rows) ≡ Some row → fits row ≡ true) [ true ↦ λ f. ap fits (sym (some_same r.1 row f)) ∙ b.0 | false ↦ λ f. found_fits k rows row b.1 f ] e

all_fit : (k : List ℕ) (row : Row) → row_named k ≡ Some row → fits row ≡ true
unfolding row_named operators fits is_kind
all_fit k row e = found_fits k operators row refl e

operands_spelled : (h : Head) (es : Nodes) (names : Names) (t : Tree) (ts : List Tree) → is_kind h ≡ true → AreOperands t h ts → SpellAll names ts es → Spells names t (node h es)
unfolding is_kind
operands_spelled (apply o) es names t ts k a s = (ts, a, s)
operands_spelled every es names t ts k a s = (ts, a, s)
operands_spelled some es names t ts k a s = (ts, a, s)
operands_spelled if_null es names t ts k a s = (ts, a, s)
operands_spelled _ es names t ts k a s = absurd cc

many : (names : Names) (ts : List Tree) (ms : List Node) → SpellAll names ts (nodes_of ms) → length ms ≡ length ts
many names [] [] h = refl
many names [] (m ∷ ms) h = absurd h
many names (t ∷ ts) [] h = absurd h
many names (t ∷ ts) (m ∷ ms) h = ap suc (many names ts ms h.1)

few_given : (most : Option ℕ) (n : ℕ) → is_few most n ≡ true → IfSome most (λ m. n ≤ m)
few_given None n h = tt
few_given (Some m) n h = leb-true n m h

one_given : (most : Option ℕ) → is_one most ≡ true → most ≡ Some 1
one_given None h = absurd cc
one_given (Some m) h = ap Some (eqb-true m 1 h)

text_given : (t : Tree) (s : List ℕ) → text_of t ≡ Some s → t ≡ leaf (text s)
text_given (leaf (text r)) s e = ap (λ x. leaf (text x)) (some_same r s e)
text_given (leaf least) s e = absurd cc
text_given (leaf null) s e = absurd cc
text_given (leaf (int n)) s e = absurd cc
text_given (leaf (long n)) s e = absurd cc
text_given (leaf (bin k b)) s e = absurd cc
text_given (leaf (id b)) s e = absurd cc
text_given (leaf (flag b)) s e = absurd cc
text_given (leaf (date n)) s e = absurd cc
text_given (leaf (stamp n)) s e = absurd cc
text_given (leaf greatest) s e = absurd cc
text_given (doc ps) s e = absurd cc
text_given (list ts) s e = absurd cc

-- the text at a name, and what it is taken for
text_at : {A : Type 0} (k : List ℕ) (ps : Fields) (f : List ℕ → Option A) (x : A) (o : Option Tree) → find k ps ≡ o → (option_map seen_of o >>= λ s. text_of (value_of s) >>= f) ≡ Some x → At k ps (λ t. (s : List ℕ) × (t ≡ leaf (text s)) × (f s ≡ Some x))
text_at k ps f x None h e = absurd cc
text_at k ps f x (Some t) h e =
    let p = bind_some (text_of (value_of (seen_of t))) f x e in
    (t, h, (p.0, text_given t p.0 (ap text_of (sym (value_seen t)) ∙ p.1), p.2))

named_item : (ps : Fields) (x : List ℕ) → (find (codes "as") (fields_seen ps) >>= λ s. text_of (value_of s) >>= chosen_name) ≡ Some x → At (codes "as") ps (λ t. t ≡ leaf (text x)) × (is_variable_name x ≡ true)
named_item ps x e =
    let a = text_at (codes "as") ps chosen_name x (find (codes "as") ps) refl (ap (λ o. o >>= λ s. text_of (value_of s) >>= chosen_name) (find_seen (codes "as") ps) ∙ e) in
    let w = only_some (is_variable_name a.2.0) (Some a.2.0) x a.2.2 in
    let same = some_same a.2.0 x w.1 in
    ((a.0, a.1, a.2.1 ∙ ap (λ s. leaf (text s)) same), ap is_variable_name (sym same) ∙ w.0)

unit_spelled : (ps : Fields) (u : DateUnit) → unit_in (fields_seen ps) ≡ Some u → At (codes "unit") ps (IsUnit u)
unit_spelled ps u e = text_at (codes "unit") ps unit_named u (find (codes "unit") ps) refl (ap (λ o. o >>= λ s. text_of (value_of s) >>= unit_named) (find_seen (codes "unit") ps) ∙ e)

-- what holds of documents as fields holds of documents
over_pairs : (P : Pairs → Type 0) → ((ps : Fields) → P (pairs_of ps)) → (qs : Pairs) → P qs
over_pairs P h qs = subst P (pairs_again qs) (h (entries qs))

-- a branch of a `$switch`
abbrev IsBranch : Names → Node × Node → Tree → Type 0
IsBranch names b t = (qs : Fields) × (t ≡ doc (pairs_of qs)) × (length qs ≡ 2) × At (codes "case") qs (λ y. Spells names y b.0) × At (codes "then") qs (λ y. Spells names y b.1)

branch_fields : (names : Names) (b : Node × Node) (qs : Fields) → GoodPairs (pairs_of qs) → branch_in (fields_seen qs) names ≡ Some b → IsBranch names b (doc (pairs_of qs))
branch_fields names b qs g e =
    let w = only_some (length (fields_seen qs) == 2) (at_name (codes "case") (fields_seen qs) names >>= λ c. at_name (codes "then") (fields_seen qs) names >>= λ x. Some (c, x)) b e in
    let c = bind_some (at_name (codes "case") (fields_seen qs) names) (λ c. at_name (codes "then") (fields_seen qs) names >>= λ x. Some (c, x)) b w.1 in
    let x = bind_some (at_name (codes "then") (fields_seen qs) names) (λ x. Some (c.0, x)) b c.2 in
    subst (λ r. IsBranch names r (doc (pairs_of qs))) (some_same (c.0, x.0) b x.2) (qs, refl, counted qs 2 w.0, at_spelled (codes "case") qs names c.0 g c.1, at_spelled (codes "then") qs names x.0 g x.1)

branch_spelled : (names : Names) (b : Node × Node) (t : Tree) → Good t → branch_reading (seen_of t) names ≡ Some b → IsBranch names b t
branch_spelled names b (leaf l) g e = absurd cc
branch_spelled names b (list ts) g e = absurd cc
branch_spelled names b (doc qs) g e = over_pairs (λ rs. GoodPairs rs → branch_reading (seen_of (doc rs)) names ≡ Some b → IsBranch names b (doc rs)) (branch_fields names b) qs g.1 e

branches_spelled : (ts : Trees) (names : Names) (front cs : List (Node × Node)) (ps : Fields) (last : Nodes) → GoodTrees ts → branches_from front (listed_items (seen_items ts)) names ≡ Some cs → SpellBranches names ps [] last
    → (bs : List (Node × Node)) × (front ++ bs ≡ cs) × SpellBranches names ps (members ts) (branch_nodes bs last)
branches_spelled no_trees names front cs ps last g e d = ([], append-nil front ∙ some_same front cs e, d)
branches_spelled (tree t ts) names front cs ps last g e d =
    let h = bind_some (branch_reading (seen_of t) names) (λ b. branches_from (front ++ b ∷ []) (listed_items (seen_items ts)) names) cs e in
    let r = branches_spelled ts names (front ++ h.0 ∷ []) cs ps last g.1 h.2 d in
    let b = branch_spelled names h.0 t g.0 h.1 in
    (h.0 ∷ r.0, sym (append_assoc front (h.0 ∷ []) r.0) ∙ r.1, (b.0, b.1, b.2, b.3, b.4, r.2))

given_default : (ps : Fields) (names : Names) (d : Option Node) → GoodPairs (pairs_of ps) → length ps ≡ 2 → (o : Option Node) → at_name (codes "default") (fields_seen ps) names ≡ o → option_map (λ n. Some n) o ≡ Some d → SpellBranches names ps [] (maybe_node d)
given_default ps names d g l None f e = absurd cc
given_default ps names d g l (Some x) f e = subst (λ o. SpellBranches names ps [] (maybe_node o)) (some_same (Some x) d e) (l, at_spelled (codes "default") ps names x g f)

default_spelled : (ps : Fields) (names : Names) (d : Option Node) → GoodPairs (pairs_of ps) → default_in (fields_seen ps) names ≡ Some d → SpellBranches names ps [] (maybe_node d)
default_spelled ps names d g e = elim (decided (length (fields_seen ps) == 1)) [
  | inl one ↦ subst (λ o. SpellBranches names ps [] (maybe_node o)) (some_same None d (rw one at e)) (counted ps 1 one)
  | inr one ↦
      let w = only_some (length (fields_seen ps) == 2) (option_map (λ n. Some n) (at_name (codes "default") (fields_seen ps) names)) d (rw one at e) in
      given_default ps names d g (counted ps 2 w.0) (at_name (codes "default") (fields_seen ps) names) refl w.1
]

found_value : (k : List ℕ) (ps : Fields) (s : Seen) (o : Option Tree) → find k ps ≡ o → option_map seen_of o ≡ Some s → (v : Tree) × (find k ps ≡ Some v) × (seen_of v ≡ s)
found_value k ps s None f e = absurd cc
found_value k ps s (Some v) f e = (v, f, some_same (seen_of v) s e)

true_not_false : {b : Bool} → b ≡ true → b ≡ false → ⊥
true_not_false p q = absurd cc

-- an operator over a value that is good
module _ (names : Names) (t : Tree) (n : Node) where
  counted_spelled : (h : Head) (low : ℕ) (most : Option ℕ) (v : Tree) (ts : List Tree) (ms : List Node) → is_kind h ≡ true → IsOperator t (takes h low most) v → with_operands h low most ms ≡ Some n → SpellAll names ts (nodes_of ms)
      → (v ≡ list (trees_of ts)) ⊎ ((most ≡ Some 1) × (ts ≡ v ∷ []) × IsNoList v) → Spells names t n
  counted_spelled h low most v ts ms k o e s f =
      let w = only_some (nat_le low (length ms) && is_few most (length ms)) (Some (node h (nodes_of ms))) n e in
      let b = both (nat_le low (length ms)) (is_few most (length ms)) w.0 in
      let c = many names ts ms s in
      subst (Spells names t) (some_same (node h (nodes_of ms)) n w.1)
      (operands_spelled h (nodes_of ms) names t ts k (record { value = v; least = low; most = most; operator = o; enough = rw c at (leb-true low (length ms) b.0); few = rw c at (few_given most (length ms) b.1); form = f }) s)

  bare_spelled : (h : Head) (low : ℕ) (most : Option ℕ) (v : Tree) → is_kind h ≡ true → Good v → IsNoList v → IsOperator t (takes h low most) v → (only_if (is_one most) (bare (reading v names)) >>= with_operands h low most) ≡ Some n → Spells names t n
  bare_spelled h low most v k g l o e =
      let p = bind_some (only_if (is_one most) (bare (reading v names))) (with_operands h low most) n e in
      let q = only_some (is_one most) (bare (reading v names)) p.0 p.1 in
      let r = bind_some (reading v names) (λ m. Some (m ∷ [])) p.0 q.1 in
      counted_spelled h low most v (v ∷ []) (r.0 ∷ []) k o (ap (with_operands h low most) (some_same (r.0 ∷ []) p.0 r.2) ∙ p.2) (law_of v g names r.0 r.1, tt) (inr (one_given most q.0, refl, l))

  takes_spelled : (h : Head) (low : ℕ) (most : Option ℕ) (v : Tree) → is_kind h ≡ true → Good v → IsOperator t (takes h low most) v → operands_reading h low most (seen_of v) names ≡ Some n → Spells names t n
  takes_spelled h low most (leaf l) k g o e = bare_spelled h low most (leaf l) k g tt o e
  takes_spelled h low most (doc ps) k g o e = bare_spelled h low most (doc ps) k g tt o e
  takes_spelled h low most (list ts) k g o e =
      let p = bind_some (all_from [] (listed_items (seen_items ts)) names) (with_operands h low most) n e in
      let q = all_spelled ts names [] p.0 g.1 p.1 in
      counted_spelled h low most (list ts) (members ts) q.0 k o (ap (with_operands h low most) q.1 ∙ p.2) q.2 (inl (ap list (sym (trees_again ts))))

  -- parts that were read
  two_given : (h : Head) (a b : Option Node) → two_parts h a b ≡ Some n → (x : Node) × (y : Node) × (a ≡ Some x) × (b ≡ Some y) × (node h (next x (next y no_nodes)) ≡ n)
  two_given h None b e = absurd cc
  two_given h (Some x) None e = absurd cc
  two_given h (Some x) (Some y) e = (x, y, refl, refl, some_same (node h (next x (next y no_nodes))) n e)

  three_given : (h : Head) (a b c : Option Node) → three_parts h a b c ≡ Some n → (x : Node) × (y : Node) × (z : Node) × (a ≡ Some x) × (b ≡ Some y) × (c ≡ Some z) × (node h (next x (next y (next z no_nodes))) ≡ n)
  three_given h None b c e = absurd cc
  three_given h (Some x) None c e = absurd cc
  three_given h (Some x) (Some y) None e = absurd cc
  three_given h (Some x) (Some y) (Some z) e = (x, y, z, refl, refl, refl, some_same (node h (next x (next y (next z no_nodes)))) n e)

  listed_condition_spelled : (ts : Trees) → GoodTrees ts → IsOperator t condition (list ts) → listed_condition (listed_items (seen_items ts)) names ≡ Some n → Spells names t n
  listed_condition_spelled no_trees g o e = absurd cc
  listed_condition_spelled (tree x no_trees) g o e = absurd cc
  listed_condition_spelled (tree x (tree y no_trees)) g o e = absurd cc
  listed_condition_spelled (tree x (tree y (tree z no_trees))) g o e =
      let r = three_given choose (reading x names) (reading y names) (reading z names) e in
      subst (Spells names t) r.6 (inl (x, y, z, o, law_of x g.0 names r.0 r.3, law_of y g.1.0 names r.1 r.4, law_of z g.1.1.0 names r.2 r.5))
  listed_condition_spelled (tree x (tree y (tree z (tree u ts)))) g o e =
      let l = listed_items (seen_items ts) in
      let w = only_some (suc (suc (suc (suc (length l)))) == 3) (three_parts choose (reading x names) (reading y names) (reading z names)) n e in
      absurd (let f : ⊥ = omega (arith, eqb-true (suc (suc (suc (suc (length l))))) 3 w.0) in f)

  named_condition_spelled : (ps : Fields) → GoodPairs (pairs_of ps) → IsOperator t condition (doc (pairs_of ps)) → named_condition (fields_seen ps) names ≡ Some n → Spells names t n
  named_condition_spelled ps g o e =
      let w = only_some (length (fields_seen ps) == 3) (three_parts choose (at_name (codes "if") (fields_seen ps) names) (at_name (codes "then") (fields_seen ps) names) (at_name (codes "else") (fields_seen ps) names)) n e in
      let r = three_given choose (at_name (codes "if") (fields_seen ps) names) (at_name (codes "then") (fields_seen ps) names) (at_name (codes "else") (fields_seen ps) names) w.1 in
      subst (Spells names t) r.6 (inr (ps, (o, counted ps 3 w.0), at_spelled (codes "if") ps names r.0 g r.3, at_spelled (codes "then") ps names r.1 g r.4, at_spelled (codes "else") ps names r.2 g r.5))

  reduced_spelled : (ps : Fields) → GoodPairs (pairs_of ps) → IsOperator t (has reduced) (doc (pairs_of ps)) → reduced_in (fields_seen ps) names ≡ Some n → Spells names t n
  reduced_spelled ps g o e =
      let inner : Names = codes "value" ∷ codes "this" ∷ names in
      let w = only_some (length (fields_seen ps) == 3) (three_parts reduce (at_name (codes "input") (fields_seen ps) names) (at_name (codes "initialValue") (fields_seen ps) names) (at_name (codes "in") (fields_seen ps) inner)) n e in
      let r = three_given reduce (at_name (codes "input") (fields_seen ps) names) (at_name (codes "initialValue") (fields_seen ps) names) (at_name (codes "in") (fields_seen ps) inner) w.1 in
      subst (Spells names t) r.6 (ps, (o, counted ps 3 w.0), at_spelled (codes "input") ps names r.0 g r.3, at_spelled (codes "initialValue") ps names r.1 g r.4, at_spelled (codes "in") ps inner r.2 g r.5)

  -- the name of an element
  item_spelled : (ps : Fields) (x : List ℕ) → item_name (fields_seen ps) ≡ Some x → IsItemName x ps
  item_spelled ps x e = elim (decided (length (fields_seen ps) == 2)) [
    | inl two ↦ inr (counted ps 2 two, sym (some_same (codes "this") x (rw two at e)))
    | inr two ↦
        let w = only_some (length (fields_seen ps) == 3) (find (codes "as") (fields_seen ps) >>= λ s. text_of (value_of s) >>= chosen_name) x (rw two at e) in
        (let m = named_item ps x w.1 in inl (counted ps 3 w.0, m.0, m.1))
  ]

  mapped_spelled : (ps : Fields) → GoodPairs (pairs_of ps) → IsOperator t (has mapped) (doc (pairs_of ps)) → mapped_in (fields_seen ps) names ≡ Some n → Spells names t n
  mapped_spelled ps g o e =
      let i = bind_some (item_name (fields_seen ps)) (λ x. two_parts (each x) (at_name (codes "input") (fields_seen ps) names) (at_name (codes "in") (fields_seen ps) (x ∷ names))) n e in
      let r = two_given (each i.0) (at_name (codes "input") (fields_seen ps) names) (at_name (codes "in") (fields_seen ps) (i.0 ∷ names)) i.2 in
      subst (Spells names t) r.4 (ps, o, item_spelled ps i.0 i.1, at_spelled (codes "input") ps names r.0 g r.2, at_spelled (codes "in") ps (i.0 ∷ names) r.1 g r.3)

  filtered_spelled : (ps : Fields) → GoodPairs (pairs_of ps) → IsOperator t (has filtered) (doc (pairs_of ps)) → filtered_in (fields_seen ps) names ≡ Some n → Spells names t n
  filtered_spelled ps g o e =
      let i = bind_some (item_name (fields_seen ps)) (λ x. two_parts (filter x) (at_name (codes "input") (fields_seen ps) names) (at_name (codes "cond") (fields_seen ps) (x ∷ names))) n e in
      let r = two_given (filter i.0) (at_name (codes "input") (fields_seen ps) names) (at_name (codes "cond") (fields_seen ps) (i.0 ∷ names)) i.2 in
      subst (Spells names t) r.4 (ps, o, item_spelled ps i.0 i.1, at_spelled (codes "input") ps names r.0 g r.2, at_spelled (codes "cond") ps (i.0 ∷ names) r.1 g r.3)

  moved_spelled : (back : Bool) (ps : Fields) → GoodPairs (pairs_of ps) → IsOperator t (has (moved back)) (doc (pairs_of ps)) → moved_in back (fields_seen ps) names ≡ Some n → Spells names t n
  moved_spelled back ps g o e =
      let w = only_some (length (fields_seen ps) == 3) (unit_in (fields_seen ps) >>= λ u. two_parts (date_add u back) (at_name (codes "startDate") (fields_seen ps) names) (at_name (codes "amount") (fields_seen ps) names)) n e in
      let u = bind_some (unit_in (fields_seen ps)) (λ u. two_parts (date_add u back) (at_name (codes "startDate") (fields_seen ps) names) (at_name (codes "amount") (fields_seen ps) names)) n w.1 in
      let r = two_given (date_add u.0 back) (at_name (codes "startDate") (fields_seen ps) names) (at_name (codes "amount") (fields_seen ps) names) u.2 in
      subst (Spells names t) r.4 (ps, (o, counted ps 3 w.0), at_spelled (codes "startDate") ps names r.0 g r.2, unit_spelled ps u.0 u.1, at_spelled (codes "amount") ps names r.1 g r.3)

  between_spelled : (ps : Fields) → GoodPairs (pairs_of ps) → IsOperator t (has between) (doc (pairs_of ps)) → between_in (fields_seen ps) names ≡ Some n → Spells names t n
  between_spelled ps g o e =
      let w = only_some (length (fields_seen ps) == 3) (unit_in (fields_seen ps) >>= λ u. two_parts (date_diff u) (at_name (codes "startDate") (fields_seen ps) names) (at_name (codes "endDate") (fields_seen ps) names)) n e in
      let u = bind_some (unit_in (fields_seen ps)) (λ u. two_parts (date_diff u) (at_name (codes "startDate") (fields_seen ps) names) (at_name (codes "endDate") (fields_seen ps) names)) n w.1 in
      let r = two_given (date_diff u.0) (at_name (codes "startDate") (fields_seen ps) names) (at_name (codes "endDate") (fields_seen ps) names) u.2 in
      subst (Spells names t) r.4 (ps, (o, counted ps 3 w.0), at_spelled (codes "startDate") ps names r.0 g r.2, at_spelled (codes "endDate") ps names r.1 g r.3, unit_spelled ps u.0 u.1)

  cut_spelled : (ps : Fields) → GoodPairs (pairs_of ps) → IsOperator t (has cut) (doc (pairs_of ps)) → cut_in (fields_seen ps) names ≡ Some n → Spells names t n
  cut_spelled ps g o e =
      let w = only_some (length (fields_seen ps) == 2) (unit_in (fields_seen ps) >>= λ u. one_part (date_trunc u) (at_name (codes "date") (fields_seen ps) names)) n e in
      let u = bind_some (unit_in (fields_seen ps)) (λ u. one_part (date_trunc u) (at_name (codes "date") (fields_seen ps) names)) n w.1 in
      let r = bind_some (at_name (codes "date") (fields_seen ps) names) (λ x. Some (node (date_trunc u.0) (next x no_nodes))) n u.2 in
      subst (Spells names t) (some_same (node (date_trunc u.0) (next r.0 no_nodes)) n r.2) (ps, (o, counted ps 2 w.0), at_spelled (codes "date") ps names r.0 g r.1, unit_spelled ps u.0 u.1)

  let_spelled : (ps : Fields) → GoodPairs (pairs_of ps) → IsOperator t (has variables) (doc (pairs_of ps)) → (vars : Fields) → GoodPairs (pairs_of vars) → length ps ≡ 2 → find (codes "vars") ps ≡ Some (doc (pairs_of vars)) → variables_over (fields_seen vars) (fields_seen ps) names ≡ Some n → Spells names t n
  let_spelled ps g o vars gv l f e =
      let inner : Names = names_of (fields_seen vars) ++ names in
      let b = bind_some (named_from is_variable_name ([], []) (fields_seen vars) names) (λ bs. at_name (codes "in") (fields_seen ps) inner >>= λ x. Some (node (bind bs.0) (next x (nodes_of bs.1)))) n e in
      let r = bind_some (at_name (codes "in") (fields_seen ps) inner) (λ x. Some (node (bind b.0.0) (next x (nodes_of b.0.1)))) n b.2 in
      let q = named_spells is_variable_name vars names ([], []) b.0 gv b.1 in
      let made : node (bind (map (λ p. p.0) vars)) (next r.0 (nodes_of q.0)) ≡ n = ap (λ (bs : Names × List Node). node (bind bs.0) (next r.0 (nodes_of bs.1))) q.1 ∙ some_same (node (bind b.0.0) (next r.0 (nodes_of b.0.1))) n r.2 in
      let body = at_other (codes "in") ps inner (map (λ p. p.0) vars ++ names) r.0 (ap (λ ms. ms ++ names) (variables_names vars)) g r.1 in
      subst (Spells names t) made (ps, map (λ p. p.1) vars, (o, l), (doc (pairs_of vars), f, record { fields = vars; form = refl; names = refl; values = refl; each = q.2 }), q.3, body)

  cases_over : (ps : Fields) → GoodPairs (pairs_of ps) → IsOperator t (has cases) (doc (pairs_of ps)) → (v : Tree) → find (codes "branches") ps ≡ Some v → (cs : List (Node × Node)) → branches_reading (seen_of v) names ≡ Some cs → (d : Option Node) → default_in (fields_seen ps) names ≡ Some d → node switch (branch_nodes cs (maybe_node d)) ≡ n → Spells names t n
  cases_over ps g o (leaf l) f cs e d de m = absurd cc
  cases_over ps g o (doc qs) f cs e d de m = absurd cc
  cases_over ps g o (list no_trees) f cs e d de m = absurd cc
  cases_over ps g o (list (tree b bs)) f cs e d de m =
      let gs = found_good (codes "branches") ps (list (tree b bs)) g f in
      let w = only_some (not (length (listed_items (seen_items (tree b bs))) == 0)) (branches_from [] (listed_items (seen_items (tree b bs))) names) cs e in
      let r = branches_spelled (tree b bs) names [] cs ps (maybe_node d) gs.1 w.1 (default_spelled ps names d g de) in
      subst (Spells names t) (ap (λ ns. node switch (branch_nodes ns (maybe_node d))) r.1 ∙ m) (ps, members (tree b bs), o, (list (tree b bs), f, ap list (sym (trees_again (tree b bs)))), omega arith, r.2)

  cases_spelled : (ps : Fields) → GoodPairs (pairs_of ps) → IsOperator t (has cases) (doc (pairs_of ps)) → cases_in (fields_seen ps) names ≡ Some n → Spells names t n
  cases_spelled ps g o e =
      let c = bind_some (branches_at (fields_seen ps) names) (λ cs. default_in (fields_seen ps) names >>= λ d. Some (node switch (branch_nodes cs (maybe_node d)))) n e in
      let d = bind_some (default_in (fields_seen ps) names) (λ d. Some (node switch (branch_nodes c.0 (maybe_node d)))) n c.2 in
      let b = bind_some (find (codes "branches") (fields_seen ps)) (λ s. branches_reading s names) c.0 c.1 in
      let v = found_value (codes "branches") ps b.0 (find (codes "branches") ps) refl (find_seen (codes "branches") ps ∙ b.1) in
      cases_over ps g o v.0 v.1 c.0 (ap (λ s. branches_reading s names) v.2 ∙ b.2) d.0 d.1 (some_same (node switch (branch_nodes c.0 (maybe_node d.0))) n d.2)

  vars_over : (ps : Fields) → GoodPairs (pairs_of ps) → IsOperator t (has variables) (doc (pairs_of ps)) → length ps ≡ 2 → (v : Tree) → find (codes "vars") ps ≡ Some v → (fields_in (seen_of v) >>= λ qs. variables_over qs (fields_seen ps) names) ≡ Some n → Spells names t n
  vars_over ps g o l (leaf k) f e = absurd cc
  vars_over ps g o l (list ts) f e = absurd cc
  vars_over ps g o l (doc qs) f e =
      over_pairs (λ rs. GoodPairs rs → find (codes "vars") ps ≡ Some (doc rs) → variables_over (listed_fields (seen_fields rs)) (fields_seen ps) names ≡ Some n → Spells names t n)
      (λ vars gv fv ev. let_spelled ps g o vars gv l fv ev) qs (found_good (codes "vars") ps (doc qs) g f).1 f e

  variables_spelled : (ps : Fields) → GoodPairs (pairs_of ps) → IsOperator t (has variables) (doc (pairs_of ps)) → variables_in (fields_seen ps) names ≡ Some n → Spells names t n
  variables_spelled ps g o e =
      let w = only_some (length (fields_seen ps) == 2) (find (codes "vars") (fields_seen ps) >>= λ s. fields_in s >>= λ qs. variables_over qs (fields_seen ps) names) n e in
      let b = bind_some (find (codes "vars") (fields_seen ps)) (λ s. fields_in s >>= λ qs. variables_over qs (fields_seen ps) names) n w.1 in
      let v = found_value (codes "vars") ps b.0 (find (codes "vars") ps) refl (find_seen (codes "vars") ps ∙ b.1) in
      vars_over ps g o (counted ps 2 w.0) v.0 v.1 (ap (λ s. fields_in s >>= λ qs. variables_over qs (fields_seen ps) names) v.2 ∙ b.2)

  shape_spelled : (shape : Shape) (ps : Fields) → GoodPairs (pairs_of ps) → IsOperator t (has shape) (doc (pairs_of ps)) → by_shape shape (fields_seen ps) names ≡ Some n → Spells names t n
  shape_spelled cases ps g o e = cases_spelled ps g o e
  shape_spelled variables ps g o e = variables_spelled ps g o e
  shape_spelled mapped ps g o e = mapped_spelled ps g o e
  shape_spelled filtered ps g o e = filtered_spelled ps g o e
  shape_spelled reduced ps g o e = reduced_spelled ps g o e
  shape_spelled (moved back) ps g o e = moved_spelled back ps g o e
  shape_spelled between ps g o e = between_spelled ps g o e
  shape_spelled cut ps g o e = cut_spelled ps g o e

  has_spelled : (shape : Shape) (v : Tree) → Good v → IsOperator t (has shape) v → (fields_in (seen_of v) >>= λ ps. by_shape shape ps names) ≡ Some n → Spells names t n
  has_spelled shape (leaf l) g o e = absurd cc
  has_spelled shape (list ts) g o e = absurd cc
  has_spelled shape (doc qs) g o e = over_pairs (λ rs. GoodPairs rs → IsOperator t (has shape) (doc rs) → by_shape shape (listed_fields (seen_fields rs)) names ≡ Some n → Spells names t n) (shape_spelled shape) qs g.1 o e

  condition_spelled : (v : Tree) → Good v → IsOperator t condition v → condition_from (items_in (seen_of v)) (seen_of v) names ≡ Some n → Spells names t n
  condition_spelled (leaf l) g o e = absurd cc
  condition_spelled (list ts) g o e = listed_condition_spelled ts g.1 o e
  condition_spelled (doc qs) g o e = over_pairs (λ rs. GoodPairs rs → IsOperator t condition (doc rs) → named_condition (listed_fields (seen_fields rs)) names ≡ Some n → Spells names t n) named_condition_spelled qs g.1 o e

  -- the operand of a part of a date
  date_over : (v x : Tree) (m : Node) (p : Part) → IsOperator t (part_of p) v → IsDateOperand v x → Good x → reading x names ≡ Some m → node (date_part p) (next m no_nodes) ≡ n → Spells names t n
  date_over v x m p o d g r e = subst (Spells names t) e (v, x, o, d, law_of x g names m r)

  date_spelled : (v : Tree) (m : Node) (p : Part) → Good v → IsOperator t (part_of p) v → date_reading (seen_of v) names ≡ Some m → node (date_part p) (next m no_nodes) ≡ n → Spells names t n
  date_spelled (leaf l) m p g o r e = date_over (leaf l) (leaf l) m p o (inr (inr (refl, tt, λ h. h))) g r e
  date_spelled (list no_trees) m p g o r e = absurd cc
  date_spelled (list (tree x no_trees)) m p g o r e = date_over (list (tree x no_trees)) x m p o (inr (inl refl)) g.1.0 r e
  date_spelled (list (tree x (tree y ts))) m p g o r e = absurd cc
  date_spelled (doc no_pairs) m p g o r e = date_over (doc no_pairs) (doc no_pairs) m p o (inr (inr (refl, tt, λ h. h))) g r e
  date_spelled (doc (pair k x no_pairs)) m p g o r e = elim (decided (bytes_eq k (codes "date"))) [
    | inl same ↦
        let d : doc (pair k x no_pairs) ≡ doc (pair (codes "date") x no_pairs) = ap (λ w. doc (pair w x no_pairs)) ((bytes_eq-Decides k (codes "date")).0 same) in
        date_over (doc (pair k x no_pairs)) x m p o (inl d) g.1.0 (rw same at r) e
    | inr other ↦
        date_over (doc (pair k x no_pairs)) (doc (pair k x no_pairs)) m p o (inr (inr (refl, tt, λ d. true_not_false ((bytes_eq-Decides k (codes "date")).1 d) other))) g (rw other at r) e
  ]
  date_spelled (doc (pair k x (pair l y ps))) m p g o r e =
      let whole = doc (pair k x (pair l y ps)) in
      let same = not_only (seen_of whole) (suc (suc (length (listed_fields (seen_fields ps)))) == 1) (find (codes "date") ((k, seen_of x) ∷ (l, seen_of y) ∷ listed_fields (seen_fields ps))) (not_one (length (listed_fields (seen_fields ps)))) in
      date_over whole whole m p o (inr (inr (refl, tt, λ h. h))) g (ap (λ s. read_as s names) (sym same) ∙ r) e

  part_spelled : (p : Part) (v : Tree) → Good v → IsOperator t (part_of p) v → part_reading p (seen_of v) names ≡ Some n → Spells names t n
  part_spelled p v g o e =
      let r = bind_some (date_reading (seen_of v) names) (λ x. Some (node (date_part p) (next x no_nodes))) n e in
      date_spelled v r.0 p g o r.1 (some_same (node (date_part p) (next r.0 no_nodes)) n r.2)

  row_spelled : (row : Row) (v : Tree) → fits row ≡ true → Good v → IsOperator t row v → by_row row (seen_of v) names ≡ Some n → Spells names t n
  unfolding fits
  row_spelled as_it_is v f g o e = subst (Spells names t) (ap (λ w. single (literal w)) (sym (value_seen v)) ∙ some_same (literal_of (value_of (seen_of v))) n e) (inl o)
  row_spelled (takes h low most) v f g o e = takes_spelled h low most v f g o e
  row_spelled condition v f g o e = condition_spelled v g o e
  row_spelled (part_of p) v f g o e = part_spelled p v g o e
  row_spelled (has shape) v f g o e = has_spelled shape v g o e

-- a document
operator_spelled : (k : List ℕ) (v : Tree) (names : Names) (n : Node) → Good v → has_sign k ≡ true → (o : Option Row) → row_named k ≡ o → doc_by (Some o) ((k, seen_of v) ∷ []) names ≡ Some n → Spells names (doc (pair k v no_pairs)) n
operator_spelled k v names n g s None f e = absurd cc
operator_spelled k v names n g s (Some row) f e = row_spelled names (doc (pair k v no_pairs)) n row v (all_fit k row f) g (record { name = k; form = refl; sign = s; named = f }) e

doc_spelled : (ps : Pairs) → GoodPairs ps → Law (doc ps)
doc_spelled no_pairs g names n e = make_spelled [] names n g e
doc_spelled (pair k v no_pairs) g names n e = elim (decided (has_sign k)) [
  | inl s ↦ operator_spelled k v names n g.0 s (row_named k) refl (rw s at e)
  | inr s ↦ make_spelled ((k, v) ∷ []) names n g (rw s at e)
]
doc_spelled (pair k v (pair l w ps)) g names n e =
    over_pairs (λ rs. GoodPairs (pair k v (pair l w rs)) → made_reading ((k, seen_of v) ∷ (l, seen_of w) ∷ listed_fields (seen_fields rs)) names ≡ Some n → Spells names (doc (pair k v (pair l w rs))) n)
    (λ rs gr er. make_spelled ((k, v) ∷ (l, w) ∷ rs) names n gr er) ps g e

mutual
  good : (t : Tree) → Good t
  good (leaf l) = leaf_spelled l
  good (doc ps) = (doc_spelled ps (good_pairs ps), good_pairs ps)
  good (list ts) = ((λ names n e. list_spelled ts names n (good_trees ts) e), good_trees ts)

  good_pairs : (ps : Pairs) → GoodPairs ps
  good_pairs no_pairs = tt
  good_pairs (pair n t ps) = (good t, good_pairs ps)

  good_trees : (ts : Trees) → GoodTrees ts
  good_trees no_trees = tt
  good_trees (tree t ts) = (good t, good_trees ts)

-- what is read is spelled so
pub spelled : (t : Tree) → Law t
spelled t = law_of t (good t)

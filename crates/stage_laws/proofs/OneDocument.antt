-- How deep the documents are that stages give for each document.
use Rattle.std.proofs.Common.{◌≡◌, ℕ, suc, ◌+◌, ◌-◌, ◌*◌, ◌<◌, ◌≤◌, Bool, true, false, cond, List, [], ◌∷◌, ◌++◌, map, length, refl, sym, ap, subst, ◌∙◌, arith}
use Rattle.std.specs.Prelude.{Option, Some, None, Result, Ok, Err, max, pos, if◌then◌else◌}
use Rattle.std.specs.Option.{IfSome, option_and_then, option_map_or}
use Rattle.std.proofs.lemmas.List.Elements.{All-head, All-tail}
use Rattle.bson_value.specs.Tree.{Tree, Leaf, null, long, leaf, doc, list, Trees, no_trees, tree, pairs_of, entries}
use Rattle.bson_value.specs.Depth.{depth}
use Rattle.bson_value.specs.Pairs.{find, without}
use Rattle.bson_value.specs.Paths.{Steps, plain, set, unset, keep}
use Rattle.bson_value.specs.Operands.{Outcome}
use Rattle.bson_value.specs.declared.eval_code.EvalCode.{EvalCode}
use Rattle.bson_value.proofs.Distinct.{entries_pairs}
use Rattle.expr_tree.specs.Bound.{around}
use Rattle.expr_tree.specs.Env.{env_of}
use Rattle.expr_tree.specs.Holds.{document, holds}
use Rattle.expr_tree.specs.Node.{Node}
use Rattle.expr_tree.specs.QueryNode.{QueryNode}
use Rattle.expr_tree.specs.Rows.{found_depth}
use Rattle.stage_tree.specs.Stage.{Made}
use Rattle.stage_tree.specs.Outcome.{Fields, Given, both, each_doc, ◌>>=◌}
use Rattle.stage_tree.specs.Rows.{id_name, value_for, values_for, set_all, unset_all, add_fields_row, id_first, with_id, project_row, new_root, replace_root_row, match_row, with_index, unwound, preserved, unwind_list, unwind_value, unwind_row}
use Rattle.stage_laws.specs.Depths.{SaysSomething, HasSteps}
use Rattle.pipeline_limits.specs.Limits.{value_bound, at_path, set_bound, made_bound, index_bound}
use Rattle.stage_laws.specs.Nested.{IsNested, MadeHasSteps}
use Rattle.stage_laws.proofs.Inside.{Each, IsInside, each_append, each_find, each_without, in_entries, doc_depth, deeper_fields}
use Rattle.stage_laws.proofs.Fitting.{Fits}
use Rattle.stage_laws.proofs.Changing.{FieldsInside, Holds, unset_inside, set_inside, keep_inside, replaced_inside}
use Rattle.stage_laws.proofs.ValueDepths.{sound}

-- ---- documents by their fields

pub fields_inside : (n : ℕ) (d : Fields) → IsNested n d → (0 < n) × FieldsInside n d
fields_inside n d h = (omega arith, subst (λ (ps : Fields). FieldsInside n ps) (entries_pairs d) (in_entries n (pairs_of d) h))

-- ---- lists of documents

abbrev pub OkDocs : ℕ → Given → Type 0
OkDocs n (Ok ds) = Each (IsNested n) ds
OkDocs n (Err c) = Unit {0}

pub docs_then : {A : Type 0} (n : ℕ) (r : Result A EvalCode) (f : A → Given) → ((x : A) → r ≡ Ok x → OkDocs n (f x)) → OkDocs n (r >>= f)
docs_then n (Err c) f h = tt
docs_then n (Ok x) f h = h x refl

both_docs : (n : ℕ) (r s : Given) → OkDocs n r → OkDocs n s → OkDocs n (both (λ xs ys. xs ++ ys) r s)
both_docs n (Ok xs) (Ok ys) h k = each_append (IsNested n) xs ys h k
both_docs n (Ok xs) (Err c) h k = tt
both_docs n (Err c) (Ok ys) h k = tt
both_docs n (Err c) (Err d) h k = tt

pub each_nested : (b n : ℕ) (go : Fields → Given) → ((d : Fields) → IsNested b d → OkDocs n (go d)) → (ds : List Fields) → Each (IsNested b) ds → OkDocs n (each_doc go ds)
each_nested b n go h [] k = tt
each_nested b n go h (d ∷ ds) k = both_docs n (go d) (each_doc go ds) (h d k.0) (each_nested b n go h ds k.1)

-- ---- what is made

pub set_more : (n : ℕ) (vs : List (Steps × ℕ)) → n ≤ set_bound n vs
set_more n [] = omega arith
set_more n (v ∷ vs) = omega (arith, set_more (max (at_path v.0 v.1) n) vs)

-- a value that may be set at its path
abbrev pub MaySet : ℕ → Steps × Option Tree → Type 0
MaySet n v = IfSome v.1 (λ t. (2 * length v.0 - 1) + depth t ≤ n)

pub all_set : (n : ℕ) (vs : List (Steps × Option Tree)) → Each (MaySet n) vs → Holds n (set_all vs)
all_set n [] h ps k = k
all_set n (v ∷ vs) h ps k = all_set n vs h.1 (set v.0 v.1 ps) (set_inside v.0 v.1 n h.0 ps k)

pub value_fits : (b : ℕ) (d : Fields) (e : Node) → IsNested b d → HasSteps e → SaysSomething (value_bound b e) → Fits (value_bound b e) (value_for d e)
value_fits b d e h k says = sound e k (around b []) (env_of d []) (record { document = h; names = λ x says2. omega arith }) says

may_set : (n : ℕ) (p : Steps) (v : Option Tree) (x : ℕ) → found_depth v ≤ x → (2 * length p - 1) + x ≤ n → MaySet n (p, v)
may_set n p None x h k = tt
may_set n p (Some t) x h k = omega arith

abbrev OkValues : ℕ → Result (List (Steps × Option Tree)) EvalCode → Type 0
OkValues n (Ok vs) = Each (MaySet n) vs
OkValues n (Err c) = Unit {0}

both_values : (n : ℕ) (p : Steps) (x : ℕ) (r : Outcome) (s : Result (List (Steps × Option Tree)) EvalCode) → Fits x r → (2 * length p - 1) + x ≤ n → OkValues n s → OkValues n (both (λ v vs. (p, v) ∷ vs) r s)
both_values n p x (Ok v) (Ok vs) h le k = (may_set n p v x h le, k)
both_values n p x (Ok v) (Err c) h le k = tt
both_values n p x (Err c) (Ok vs) h le k = tt
both_values n p x (Err c) (Err d) h le k = tt

-- a bound at a path, where it says something
pub at_path_says : (p : Steps) (x n : ℕ) → at_path p x ≤ n → SaysSomething n → ((2 * length p - 1) + x ≤ n) × SaysSomething x
at_path_says p x n h says = (omega arith, omega arith)

values_fit : (b n : ℕ) (d : Fields) → IsNested b d → SaysSomething n → (ms : Made) (m : ℕ) → MadeHasSteps ms → set_bound m (map (λ o. (o.0, value_bound b o.1)) ms) ≤ n → OkValues n (values_for d ms)
values_fit b n d h says [] m k le = tt
values_fit b n d h says (o ∷ ms) m k le =
    let x = value_bound b o.1 in
    let l = max (at_path o.0 x) m in
    let more : l ≤ set_bound l (map (λ q. (q.0, value_bound b q.1)) ms) = set_more l (map (λ q. (q.0, value_bound b q.1)) ms) in
    let s = at_path_says o.0 x n (omega arith) says in
    both_values n o.0 x (value_for d o.1) (values_for d ms) (value_fits b d o.1 h (All-head (λ q. HasSteps q.1) o ms k) s.1) s.0
    (values_fit b n d h says ms l (All-tail (λ q. HasSteps q.1) o ms k) le)

-- all paths set in a document of which there may be less
made_nested : (b : ℕ) (made : Made) (d e : Fields) (go : Fields → Fields) → IsNested b d → MadeHasSteps made → SaysSomething (made_bound made b) → FieldsInside (made_bound made b) e → Holds (made_bound made b) go
    → OkDocs (made_bound made b) (values_for d made >>= λ vs. Ok (go (set_all vs e) ∷ []))
made_nested b made d e go h k says inside holds =
    let n = made_bound made b in
    let le : b ≤ n = set_more b (map (λ o. (o.0, value_bound b o.1)) made) in
    let lt : 0 < n = let z = (fields_inside b d h).0 in omega arith in
    let fit : OkValues n (values_for d made) = values_fit b n d h says made b k (omega arith) in
    docs_then n (values_for d made) (λ vs. Ok (go (set_all vs e) ∷ []))
    (λ vs f. (doc_depth n (go (set_all vs e)) lt (holds (set_all vs e) (all_set n vs (rw f at fit) e inside)), tt))

pub add_fields_nested : (b : ℕ) (made : Made) → MadeHasSteps made → SaysSomething (made_bound made b) → (d : Fields) → IsNested b d → OkDocs (made_bound made b) (add_fields_row made d)
add_fields_nested b made k says d h =
    made_nested b made d d (λ (e : Fields). e) h k says (deeper_fields b (made_bound made b) d (set_more b (map (λ o. (o.0, value_bound b o.1)) made)) (fields_inside b d h).1) (λ ps l. l)

first_inside : (n : ℕ) (d : Fields) (o : Option Tree) → IfSome o (IsInside n) → FieldsInside n d → FieldsInside n (option_map_or (λ v. (id_name, v) ∷ without id_name d) o d)
first_inside n d None h k = k
first_inside n d (Some v) h k = (h, each_without (IsInside n) id_name d k)

id_first_inside : (n : ℕ) → Holds n id_first
id_first_inside n d k = first_inside n d (find id_name d) (each_find (IsInside n) id_name d k) k

all_unset : (n : ℕ) (ps : List Steps) → Holds n (unset_all ps)
all_unset n [] d k = k
all_unset n (p ∷ ps) d k = all_unset n ps (unset p d) (unset_inside p n d k)

pub unset_nested : (b : ℕ) (ps : List Steps) (d : Fields) → IsNested b d → IsNested b (unset_all ps d)
unset_nested b ps d h = let f = fields_inside b d h in doc_depth b (unset_all ps d) f.0 (all_unset b ps d f.1)

pub project_nested : (b : ℕ) (keeps_id excludes : Bool) (ps : List Steps) (made : Made) → MadeHasSteps made → SaysSomething (if excludes then b else made_bound made b) → (d : Fields) → IsNested b d
    → OkDocs (if excludes then b else made_bound made b) (project_row keeps_id excludes ps made d)
project_nested b keeps_id true ps made k says d h = (unset_nested b (if keeps_id then ps else with_id true ps) d h, tt)
project_nested b keeps_id false ps made k says d h =
    made_nested b made d (keep (with_id keeps_id ps) d) id_first h k says
    (deeper_fields b (made_bound made b) (keep (with_id keeps_id ps) d) (set_more b (map (λ o. (o.0, value_bound b o.1)) made)) (keep_inside (with_id keeps_id ps) b d h)) (id_first_inside (made_bound made b))

pub keep_nested : (b : ℕ) (qs : List Steps) (d : Fields) → IsNested b d → IsNested b (keep qs d)
keep_nested b qs d h = doc_depth b (keep qs d) (fields_inside b d h).0 (keep_inside qs b d h)

-- ---- `$replaceRoot`

root_nested : (n : ℕ) (v : Option Tree) → found_depth v ≤ n → OkDocs n (new_root v)
root_nested n None h = tt
root_nested n (Some (leaf l)) h = tt
root_nested n (Some (doc ps)) h = (doc_depth n (entries ps) (omega arith) (in_entries n ps h), tt)
root_nested n (Some (list ts)) h = tt

pub replace_root_nested : (b : ℕ) (e : Node) → HasSteps e → SaysSomething (value_bound b e) → (d : Fields) → IsNested b d → OkDocs (value_bound b e) (replace_root_row e d)
replace_root_nested b e k says d h =
    let fit = value_fits b d e h k says in
    docs_then (value_bound b e) (value_for d e) new_root (λ v f. root_nested (value_bound b e) v (rw f at fit))

-- ---- `$match`

match_if : (n : ℕ) (t : Bool) (d : Fields) → IsNested n d → Each (IsNested n) (cond t (d ∷ []) [])
match_if n true d h = (h, tt)
match_if n false d h = tt

pub match_nested : (b : ℕ) (q : QueryNode) (d : Fields) → IsNested b d → OkDocs b (match_row q d)
match_nested b q d h = docs_then b (holds q (document d)) (λ t. Ok (if t then d ∷ [] else [])) (λ t e. match_if b t d h)

-- ---- `$unwind`

index_inside : (b : ℕ) (index : Option Steps) (l : Leaf) → SaysSomething (index_bound index b) → Holds (index_bound index b) (with_index index l)
index_inside b None l says d k = k
index_inside b (Some p) l says d k = set_inside p (Some (leaf l)) (index_bound (Some p) b) (at_path_says p 0 (index_bound (Some p) b) (omega arith) says).0 d k

pub index_more : (b : ℕ) (index : Option Steps) → b ≤ index_bound index b
index_more b None = omega arith
index_more b (Some p) = set_more b ((p, 0) ∷ [])

module _ (b : ℕ) (index : Option Steps) (says : SaysSomething (index_bound index b)) where
  abbrev n : ℕ
  n = index_bound index b

  indexed : (l : Leaf) (d : Fields) → 0 < b → FieldsInside b d → IsNested n (with_index index l d)
  indexed l d lt k = doc_depth n (with_index index l d) (omega (arith, index_more b index)) (index_inside b index l says d (deeper_fields b n d (index_more b index) k))

  element_set : (p : Steps) (u v : Tree) (d : Fields) → depth v ≤ depth u → plain p (doc (pairs_of d)) ≡ Some u → FieldsInside b d → FieldsInside b (set p (Some v) d)
  element_set [] u v d le e k = k
  element_set (s ∷ ss) u v d le e k = replaced_inside s ss u v b d le (ap (λ (ps : Fields). option_and_then (plain ss) (find s ps)) (sym (entries_pairs d)) ∙ e) k

  unwound_nested : (p : Steps) (u : Tree) (d : Fields) → 0 < b → FieldsInside b d → plain p (doc (pairs_of d)) ≡ Some u → (ts : Trees) (i : ℕ) → depth (list ts) ≤ depth u → Each (IsNested n) (unwound p index d i ts)
  unwound_nested p u d lt k e no_trees i le = tt
  unwound_nested p u d lt k e (tree t ts) i le =
      (indexed (long (pos i)) (set p (Some t) d) lt (element_set p u t d (omega arith) e k), unwound_nested p u d lt k e ts (suc i) (omega arith))

  preserved_nested : (stays : Bool) (d : Fields) → 0 < b → FieldsInside b d → Each (IsNested n) (preserved stays index d)
  preserved_nested true d lt k = (indexed null d lt k, tt)
  preserved_nested false d lt k = tt

  list_nested : (p : Steps) (stays : Bool) (d : Fields) → 0 < b → FieldsInside b d → (ts : Trees) → plain p (doc (pairs_of d)) ≡ Some (list ts) → Each (IsNested n) (unwind_list p index stays d ts)
  list_nested p stays d lt k no_trees e = preserved_nested stays (unset p d) lt (unset_inside p b d k)
  list_nested p stays d lt k (tree t ts) e = unwound_nested p (list (tree t ts)) d lt k e (tree t ts) 0 (omega arith)

  value_nested : (p : Steps) (stays : Bool) (d : Fields) → 0 < b → FieldsInside b d → (v : Option Tree) → plain p (doc (pairs_of d)) ≡ v → Each (IsNested n) (unwind_value p index stays d v)
  value_nested p stays d lt k None e = preserved_nested stays d lt k
  value_nested p stays d lt k (Some (leaf null)) e = preserved_nested stays d lt k
  value_nested p stays d lt k (Some (leaf l)) e = (indexed null d lt k, tt)
  value_nested p stays d lt k (Some (doc ps)) e = (indexed null d lt k, tt)
  value_nested p stays d lt k (Some (list ts)) e = list_nested p stays d lt k ts e

  pub unwind_nested : (p : Steps) (stays : Bool) (d : Fields) → IsNested b d → OkDocs n (unwind_row p index stays d)
  unwind_nested p stays d h = let f = fields_inside b d h in value_nested p stays d f.0 f.1 (plain p (doc (pairs_of d))) refl

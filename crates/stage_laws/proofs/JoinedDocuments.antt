-- How deep the documents are that stages give which look at other collections or run other pipelines.
use Rattle.std.proofs.Common.{ℕ, zero, suc, ◌+◌, ◌-◌, ◌*◌, ◌<◌, ◌≤◌, Bool, true, false, cond, List, [], ◌∷◌, ◌++◌, map, length, arith}
use Rattle.std.specs.Prelude.{Option, Some, None, Result, Ok, Err, max, pos, not, ◌&&◌, filter}
use Rattle.std.specs.List.{flat_map}
use Rattle.bson_value.specs.Tree.{Tree, long, leaf}
use Rattle.bson_value.specs.Depth.{depth}
use Rattle.bson_value.specs.Pairs.{put}
use Rattle.bson_value.specs.Paths.{Steps, reach, set}
use Rattle.bson_value.specs.declared.eval_code.EvalCode.{EvalCode}
use Rattle.expr_tree.specs.Node.{Node}
use Rattle.expr_tree.specs.QueryNode.{QueryNode}
use Rattle.stage_tree.specs.Outcome.{Fields, Given, Ran, World, Running, both, ◌>>=◌}
use Rattle.stage_tree.specs.Rows.{value_for, unwind_row}
use Rattle.stage_tree.specs.Joining.{whole, docs_list, local_values, joins, looked_up, unwound_by, lookup_row, start_values, is_one_of, is_next, id_of, level, with_level, is_last, levels, graph_row, as_given, owned_in, union_row, facet_lists, put_each, facet_row}
use Rattle.stage_laws.specs.Depths.{SaysSomething}
use Rattle.pipeline_limits.specs.Limits.{value_bound, at_path, index_bound, held_bound, lookup_bound, joined_bound, level_bound, graph_bound}
use Rattle.stage_laws.specs.Nested.{IsNested}
use Rattle.stage_laws.proofs.Inside.{Each, IsInside, each_append, each_filter, each_weaker, map_each, each_put, list_depth, doc_depth, deeper_fields}
use Rattle.stage_laws.proofs.Changing.{FieldsInside, set_inside}
use Rattle.stage_laws.proofs.OneDocument.{fields_inside, OkDocs, docs_then, each_nested, at_path_says, unwind_nested, index_more}

-- ---- documents as an array

wholes_inside : (n : ℕ) (ds : List Fields) → Each (IsNested n) ds → Each (IsInside (suc n)) (map whole ds)
wholes_inside n [] h = tt
wholes_inside n (d ∷ ds) h = (omega (arith, h.0), wholes_inside n ds h.1)

pub docs_depth : (n : ℕ) (ds : List Fields) → Each (IsNested n) ds → depth (docs_list ds) ≤ suc n
docs_depth n ds h = list_depth (suc n) (map whole ds) (omega arith) (wholes_inside n ds h)

pub more_nested : (n m : ℕ) (ds : List Fields) → n ≤ m → Each (IsNested n) ds → Each (IsNested m) ds
more_nested n m ds le = each_weaker (IsNested n) (IsNested m) (λ d h. omega (arith, h)) ds

-- documents set at a path of a document
held_nested : (b x : ℕ) (target : Steps) (d : Fields) (es : List Fields) → IsNested b d → Each (IsNested x) es → (y : ℕ) → suc x ≤ y → (2 * length target - 1) + y ≤ max (at_path target y) b → IsNested (max (at_path target y) b) (set target (Some (docs_list es)) d)
held_nested b x target d es h k y le fit =
    let n = max (at_path target y) b in
    let f = fields_inside b d h in
    let e : depth (docs_list es) ≤ suc x = docs_depth x es k in
    doc_depth n (set target (Some (docs_list es)) d) (omega (arith, f.0)) (set_inside target (Some (docs_list es)) n (omega arith) d (deeper_fields b n d (omega arith) f.1))

-- ---- `$lookup`

looked_up_nested : (b : ℕ) (others : List Fields) (local field target : Steps) → Each (IsNested 100) others → SaysSomething (lookup_bound target b) → (d : Fields) → IsNested b d → IsNested (lookup_bound target b) (looked_up others local field target d)
looked_up_nested b others local field target k says d h =
    let s = at_path_says target (held_bound b []) (lookup_bound target b) (omega arith) says in
    held_nested b 100 target d (filter (joins field (local_values (reach local (whole d)))) others) h (each_filter (IsNested 100) (joins field (local_values (reach local (whole d)))) others k) (held_bound b []) (omega arith) s.0

each_looked_up : (b : ℕ) (others : List Fields) (local field target : Steps) → Each (IsNested 100) others → SaysSomething (lookup_bound target b) → (ds : List Fields) → Each (IsNested b) ds → Each (IsNested (lookup_bound target b)) (map (looked_up others local field target) ds)
each_looked_up b others local field target k says ds h =
    map_each (IsNested (lookup_bound target b)) (looked_up others local field target) ds (each_weaker (IsNested b) (λ d. IsNested (lookup_bound target b) (looked_up others local field target d)) (looked_up_nested b others local field target k says) ds h)

unwound_by_nested : (b : ℕ) (u : Option (Steps × (Option Steps × Bool))) → SaysSomething (joined_bound u b) → (ds : List Fields) → Each (IsNested b) ds → OkDocs (joined_bound u b) (unwound_by u ds)
unwound_by_nested b None says ds h = h
unwound_by_nested b (Some u) says ds h = each_nested b (index_bound u.1.0 b) (unwind_row u.0 u.1.0 u.1.1) (λ d k. unwind_nested b u.1.0 says u.0 u.1.1 d k) ds h

joined_more : (b : ℕ) (u : Option (Steps × (Option Steps × Bool))) → b ≤ joined_bound u b
joined_more b None = omega arith
joined_more b (Some u) = index_more b u.1.0

pub lookup_nested : (b : ℕ) (others : List Fields) (local field target : Steps) (u : Option (Steps × (Option Steps × Bool))) → Each (IsNested 100) others → SaysSomething (joined_bound u (lookup_bound target b)) → (ds : List Fields) → Each (IsNested b) ds
    → OkDocs (joined_bound u (lookup_bound target b)) (lookup_row others local field target u ds)
lookup_nested b others local field target u k says ds h =
    unwound_by_nested (lookup_bound target b) u says (map (looked_up others local field target) ds) (each_looked_up b others local field target k (omega (arith, joined_more (lookup_bound target b) u)) ds h)

-- ---- `$graphLookup`

level_if : (n : ℕ) (t : Bool) (e : Fields) (es fs : List Fields) → IsNested n e → Each (IsNested n) es → Each (IsNested n) fs → Each (IsNested n) (cond t (e ∷ es) fs)
level_if n true e es fs h k l = (h, k)
level_if n false e es fs h k l = l

level_nested : (n : ℕ) (belongs : Fields → Bool) (es : List Fields) (seen : List Tree) → Each (IsNested n) es → Each (IsNested n) (level belongs seen es)
level_nested n belongs [] seen h = tt
level_nested n belongs (e ∷ es) seen h =
    level_if n (belongs e && not (is_one_of seen (id_of e))) e (level belongs (id_of e ∷ seen) es) (level belongs seen es) h.0 (level_nested n belongs es (id_of e ∷ seen) h.1) (level_nested n belongs es seen h.1)

with_level_nested : (n : ℕ) (depth : Option Steps) (i : ℕ) (e : Fields) → 100 ≤ n → level_bound depth ≤ n → SaysSomething n → IsNested 100 e → IsNested n (with_level depth i e)
with_level_nested n None i e le k says h = omega arith
with_level_nested n (Some p) i e le k says h =
    doc_depth n (set p (Some (leaf (long (pos i)))) e) (omega arith) (set_inside p (Some (leaf (long (pos i)))) n (at_path_says p 0 n k says).0 e (deeper_fields 100 n e le (fields_inside 100 e h).1))

more_if : (n : ℕ) (t : Bool) (es : List Fields) → Each (IsNested n) es → Each (IsNested n) (cond t [] es)
more_if n true es h = tt
more_if n false es h = h

levels_nested : (n : ℕ) (others : List Fields) (restrict : Option QueryNode) (from field : Steps) (most : Option ℕ) (depth : Option Steps) → 100 ≤ n → level_bound depth ≤ n → SaysSomething n → Each (IsNested 100) others
    → (left i : ℕ) (vs seen : List Tree) → Each (IsNested n) (levels left others restrict from field most depth i vs seen)
levels_nested n others restrict from field most depth le k says h zero i vs seen = tt
levels_nested n others restrict from field most depth le k says h (suc left) i vs seen =
    let found : List Fields = level (is_next restrict field vs) seen others in
    let more : List Fields = levels left others restrict from field most depth (suc i) (flat_map (λ e. start_values (reach from (whole e))) found) (map id_of found ++ seen) in
    each_append (IsNested n) (map (with_level depth i) found) (cond (is_last most i) [] more)
    (map_each (IsNested n) (with_level depth i) found (each_weaker (IsNested 100) (λ e. IsNested n (with_level depth i e)) (λ e m. with_level_nested n depth i e le k says m) found (level_nested 100 (is_next restrict field vs) others seen h)))
    (more_if n (is_last most i) more (levels_nested n others restrict from field most depth le k says h left (suc i) (flat_map (λ e. start_values (reach from (whole e))) found) (map id_of found ++ seen)))

pub graph_nested : (b : ℕ) (others : List Fields) (start : Node) (from field target : Steps) (most : Option ℕ) (depth : Option Steps) (restrict : Option QueryNode) → Each (IsNested 100) others → SaysSomething (graph_bound start target depth b) → (d : Fields) → IsNested b d
    → OkDocs (graph_bound start target depth b) (graph_row others start from field target most depth restrict d)
graph_nested b others start from field target most depth restrict k says d h =
    let x = max (level_bound depth) (max (value_bound b start) (max b 100)) in
    let y = held_bound b (value_bound b start ∷ level_bound depth ∷ []) in
    let s = at_path_says target y (graph_bound start target depth b) (omega arith) says in
    docs_then (graph_bound start target depth b) (value_for d start) (λ v. Ok (set target (Some (docs_list (levels (suc (length others)) others restrict from field most depth 0 (start_values v) []))) d ∷ []))
    (λ v e. (
      held_nested b x target d (levels (suc (length others)) others restrict from field most depth 0 (start_values v) []) h
          (levels_nested x others restrict from field most depth (omega arith) (omega arith) (omega arith) k (suc (length others)) 0 (start_values v) []) y (omega arith) s.0,
      tt,
    ))

-- ---- inner pipelines

abbrev pub OkRan : ℕ → Ran → Type 0
OkRan n (Ok ds) = Each (IsNested n) ds
OkRan n (Err f) = Unit {0}

given_nested : (n : ℕ) (r : Ran) → OkRan n r → OkDocs n (as_given r)
given_nested n (Ok ds) h = h
given_nested n (Err f) h = tt

-- what each pipeline gives, over the world and these documents
abbrev pub EachRan : ℕ → World → List Fields → List Running → Type 0
EachRan n w ds ms = Each (λ m. OkRan n (m w ds)) ms

union_more : (b n : ℕ) (r : Given) (ds : List Fields) → Each (IsNested b) ds → OkDocs n r → OkDocs (max n b) (r >>= λ es. Ok (ds ++ es))
union_more b n (Err c) ds h k = tt
union_more b n (Ok es) ds h k = each_append (IsNested (max n b)) ds es (more_nested b (max n b) ds (omega arith) h) (more_nested n (max n b) es (omega arith) k)

pub union_nested : (b n : ℕ) (name : List ℕ) (ms : List Running) (w : World) (ds : List Fields) → Each (IsNested b) ds → EachRan n w (owned_in name w) ms → OkDocs (max n b) (union_row name ms w ds)
union_nested b n name [] w ds h k = more_nested b (max n b) ds (omega arith) h
union_nested b n name (m ∷ ms) w ds h k = union_more b n (as_given (m w (owned_in name w))) ds h (given_nested n (m w (owned_in name w)) k.0)

abbrev OkFacets : ℕ → Result Fields EvalCode → Type 0
OkFacets n (Ok fs) = FieldsInside n fs
OkFacets n (Err c) = Unit {0}

both_facets : (n : ℕ) (name : List ℕ) (r : Given) (s : Result Fields EvalCode) → OkDocs n r → OkFacets (n + 2) s → OkFacets (n + 2) (both (λ es fs. (name, docs_list es) ∷ fs) r s)
both_facets n name (Ok es) (Ok fs) h k = (omega (arith, docs_depth n es h), k)
both_facets n name (Ok es) (Err c) h k = tt
both_facets n name (Err c) (Ok fs) h k = tt
both_facets n name (Err c) (Err d) h k = tt

lists_inside : (n : ℕ) (names : List (List ℕ)) (ms : List Running) (w : World) (ds : List Fields) → EachRan n w ds ms → OkFacets (n + 2) (facet_lists names ms w ds)
lists_inside n [] ms w ds k = tt
lists_inside n (x ∷ xs) [] w ds k = tt
lists_inside n (x ∷ xs) (m ∷ ms) w ds k = both_facets n x (as_given (m w ds)) (facet_lists xs ms w ds) (given_nested n (m w ds) k.0) (lists_inside n xs ms w ds k.1)

put_each_inside : (n : ℕ) (fs d : Fields) → FieldsInside n fs → FieldsInside n d → FieldsInside n (put_each fs d)
put_each_inside n [] d h k = k
put_each_inside n (f ∷ fs) d h k = put_each_inside n fs (put f.0 f.1 d) h.1 (each_put (IsInside n) f.0 f.1 d h.0 k)

facets_then : (n : ℕ) (r : Result Fields EvalCode) → OkFacets n r → 0 < n → OkDocs n (r >>= λ fs. Ok (put_each fs [] ∷ []))
facets_then n (Err c) h lt = tt
facets_then n (Ok fs) h lt = (doc_depth n (put_each fs []) lt (put_each_inside n fs [] h tt), tt)

pub facet_nested : (n : ℕ) (names : List (List ℕ)) (ms : List Running) (w : World) (ds : List Fields) → EachRan n w ds ms → OkDocs (n + 2) (facet_row names ms w ds)
facet_nested n names ms w ds k = facets_then (n + 2) (facet_lists names ms w ds) (lists_inside n names ms w ds k) (omega arith)

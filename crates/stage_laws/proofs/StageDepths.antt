-- How deep the documents behind each stage of a pipeline are nested.
use Rattle.std.proofs.Common.{◌≡◌, ℕ, ◌+◌, ◌≤◌, Bool, true, false, cond, List, [], ◌∷◌, map, arith}
use Rattle.std.specs.Prelude.{Option, Some, None, Ok, Err, max}
use Rattle.std.specs.List.{All}
use Rattle.std.specs.Option.{IfSome, option_map_or}
use Rattle.std.proofs.lemmas.List.Elements.{All-from_recursion, recursion_from_All, All-weaker}
use Rattle.std.specs.Ordering.{is_lt}
use Rattle.bson_value.specs.Pairs.{find}
use Rattle.bson_value.specs.Paths.{keep as keep_paths}
use Rattle.expr_tree.specs.Bound.{no_more}
use Rattle.expr_tree.specs.QueryNode.{QueryNode}
use Rattle.stage_tree.specs.Joining.{owned_in, lookup_row, graph_row, facet_row, union_row}
use Rattle.stage_tree.specs.Outcome.{Fields, Given, Ran, World, Running, each_doc, at_stage, least_origin, ◌>>=◌}
use Rattle.stage_tree.specs.Rows.{steps_of, unset_all, add_fields_row, project_row, replace_root_row, match_row, unwind_row, count_row}
use Rattle.stage_tree.specs.Sorting.{sort_order, among, sorted_onto, capped}
use Rattle.stage_tree.specs.Stage.{Keys, StageHead, keep, match, project, add_fields, unset, replace_root, unwind, group, sort, limit, skip, count, lookup, graph_lookup, facet, union, window, merge, StageNode, stage, Stages, no_stages, placed, Pipes, no_pipes, pipe}
use Rattle.stage_tree.specs.Written.{matched, run, runs, written, running}
use Rattle.stage_laws.specs.Bounds.{bounds_at, bounds, bounds_within}
use Rattle.stage_laws.specs.Depths.{SaysSomething}
use Rattle.pipeline_limits.specs.Limits.{begins, behind_row, bound_behind, bound_after, deepest_end, past_limits}
use Rattle.stage_laws.specs.Nested.{IsNested, CollectionsAreNested, IsTold, StageHasSteps, EachIn, EachStage, EachPiped}
use Rattle.stage_laws.proofs.Inside.{Each, EachField, each_front, each_back, each_take, each_drop, each_weaker, map_each, each_find}
use Rattle.stage_laws.proofs.OneDocument.{OkDocs, each_nested, add_fields_nested, project_nested, unset_nested, keep_nested, replace_root_nested, match_nested, unwind_nested}
use Rattle.stage_laws.proofs.Passing.{none_is, none_refused}
use Rattle.stage_laws.proofs.JoinedDocuments.{more_nested, lookup_nested, graph_nested, OkRan, EachRan, union_nested, facet_nested}

pub ran_then : (n m : ℕ) (r : Ran) (f : List Fields → Ran) → OkRan n r → ((ds : List Fields) → Each (IsNested n) ds → OkRan m (f ds)) → OkRan m (r >>= f)
ran_then n m (Err e) f h k = tt
ran_then n m (Ok ds) f h k = k ds h

ran_at : (n i : ℕ) (r : Given) → OkDocs n r → OkRan n (at_stage i r)
ran_at n i (Ok ds) h = h
ran_at n i (Err c) h = tt

ran_more : (n m : ℕ) (r : Ran) → n ≤ m → OkRan n r → OkRan m r
ran_more n m (Ok ds) le h = more_nested n m ds le h
ran_more n m (Err e) le h = tt

each_changed : (b n : ℕ) (go : Fields → Fields) (ds : List Fields) → ((d : Fields) → IsNested b d → IsNested n (go d)) → Each (IsNested b) ds → Each (IsNested n) (map go ds)
each_changed b n go ds f h = map_each (IsNested n) go ds (each_weaker (IsNested b) (λ d. IsNested n (go d)) f ds h)

matched_nested : (b : ℕ) (items : List (QueryNode × ℕ)) (ds : List Fields) → Each (IsNested b) ds → OkRan b (matched items ds)
matched_nested b [] ds h = h
matched_nested b (i ∷ items) ds h = ran_then b b (at_stage i.1 (each_doc (match_row i.0) ds)) (matched items) (ran_at b i.1 (each_doc (match_row i.0) ds) (each_nested b b (match_row i.0) (match_nested b i.0) ds h)) (matched_nested b items)

-- ---- sorted

among_if : (n : ℕ) (t : Bool) (es fs : List Fields) → Each (IsNested n) es → Each (IsNested n) fs → Each (IsNested n) (cond t es fs)
among_if n true es fs h k = h
among_if n false es fs h k = k

among_nested : (n : ℕ) (ks : Keys) (d : Fields) (es : List Fields) → IsNested n d → Each (IsNested n) es → Each (IsNested n) (among ks d es)
among_nested n ks d [] h k = (h, tt)
among_nested n ks d (e ∷ es) h k = among_if n (is_lt (sort_order ks d e)) (d ∷ e ∷ es) (e ∷ among ks d es) (h, k) (k.0, among_nested n ks d es h k.1)

sorted_nested : (n : ℕ) (ks : Keys) (ds es : List Fields) → Each (IsNested n) ds → Each (IsNested n) es → Each (IsNested n) (sorted_onto ks es ds)
sorted_nested n ks [] es h k = k
sorted_nested n ks (d ∷ ds) es h k = sorted_nested n ks ds (among ks d es) h.1 (among_nested n ks d es h.0 k)

capped_nested : (n : ℕ) (cap : Option ℕ) (ds : List Fields) → Each (IsNested n) ds → Each (IsNested n) (capped cap ds)
capped_nested n None ds h = h
capped_nested n (Some m) ds h = each_take (IsNested n) m ds h

count_nested : (name : List ℕ) (ds : List Fields) → Each (IsNested 1) (count_row name ds)
count_nested name [] = tt
count_nested name (d ∷ ds) = (omega arith, tt)

-- ---- a stage

module _ (w : World) (collections : EachField (Each (IsNested 100)) w) where
  found_nested : (o : Option (List Fields)) → IfSome o (Each (IsNested 100)) → Each (IsNested 100) (option_map_or (λ (ds : List Fields). ds) o [])
  found_nested None h = tt
  found_nested (Some ds) h = h

  pub owned_nested : (name : List ℕ) → Each (IsNested 100) (owned_in name w)
  owned_nested name = found_nested (find name w) (each_find (Each (IsNested 100)) name w collections)

  -- the pipelines within it keep to a bound over documents that are nested as deep as they begin with
  abbrev pub Within : StageHead → ℕ → ℕ → List Running → Type 0
  Within h inner b ms = (es : List Fields) → Each (IsNested (begins h b)) es → EachRan inner w es ms

  pub head_nested : (h : StageHead) (inner b : ℕ) (ms : List Running) (os : List ℕ) (ds : List Fields) → IsTold h → StageHasSteps h → Within h inner b ms → SaysSomething (behind_row h inner b) → Each (IsNested b) ds → OkRan (behind_row h inner b) (run h os ms w ds)
  head_nested (keep names) inner b ms os ds told steps within says h = each_changed b b (keep_paths (steps_of names)) ds (keep_nested b (steps_of names)) h
  head_nested (match items) inner b ms os ds told steps within says h = matched_nested b items ds h
  head_nested (project keeps_id excludes ps made) inner b ms os ds told steps within says h =
      ran_at _ (least_origin os) (each_doc (project_row keeps_id excludes ps made) ds) (each_nested b _ (project_row keeps_id excludes ps made) (project_nested b keeps_id excludes ps made steps says) ds h)
  head_nested (add_fields made) inner b ms os ds told steps within says h =
      ran_at _ (least_origin os) (each_doc (add_fields_row made) ds) (each_nested b _ (add_fields_row made) (add_fields_nested b made steps says) ds h)
  head_nested (unset ps) inner b ms os ds told steps within says h = each_changed b b (unset_all ps) ds (unset_nested b ps) h
  head_nested (replace_root e) inner b ms os ds told steps within says h =
      ran_at _ (least_origin os) (each_doc (replace_root_row e) ds) (each_nested b _ (replace_root_row e) (replace_root_nested b e steps says) ds h)
  head_nested (unwind p index stays) inner b ms os ds told steps within says h =
      ran_at _ (least_origin os) (each_doc (unwind_row p index stays) ds) (each_nested b _ (unwind_row p index stays) (unwind_nested b index says p stays) ds h)
  head_nested (group key parts partial) inner b ms os ds told steps within says h = absurd told
  head_nested (sort keys cap) inner b ms os ds told steps within says h = capped_nested b cap (sorted_onto keys [] ds) (sorted_nested b keys ds [] h tt)
  head_nested (limit n) inner b ms os ds told steps within says h = each_take (IsNested b) n ds h
  head_nested (skip n) inner b ms os ds told steps within says h = each_drop (IsNested b) n ds h
  head_nested (count name) inner b ms os ds told steps within says h = count_nested name ds
  head_nested (lookup name local field target u) inner b ms os ds told steps within says h =
      ran_at _ (least_origin os) (lookup_row (owned_in name w) local field target u ds) (lookup_nested b (owned_in name w) local field target u (owned_nested name) says ds h)
  head_nested (graph_lookup name start from to target most level restrict) inner b ms os ds told steps within says h =
      ran_at _ (least_origin os) (each_doc (graph_row (owned_in name w) start from to target most level restrict) ds)
      (each_nested b _ (graph_row (owned_in name w) start from to target most level restrict) (graph_nested b (owned_in name w) start from to target most level restrict (owned_nested name) says) ds h)
  head_nested (facet names) inner b ms os ds told steps within says h =
      ran_more (inner + 2) (no_more (inner + 2)) (at_stage (least_origin os) (facet_row names ms w ds)) (omega arith) (ran_at (inner + 2) (least_origin os) (facet_row names ms w ds) (facet_nested inner names ms w ds (within ds h)))
  head_nested (union name) inner b ms os ds told steps within says h =
      ran_at _ (least_origin os) (union_row name ms w ds) (union_nested b inner name ms w ds h (within (owned_in name w) (owned_nested name)))
  head_nested (window partition keys outputs) inner b ms os ds told steps within says h = absurd told
  head_nested (merge target matched unmatched) inner b ms os ds told steps within says h = absurd told

  -- ---- pipelines

  abbrev AllSay : List ℕ → Type 0
  AllSay ns = Each SaysSomething ns

  deeper_ran : (n m : ℕ) (ds : List Fields) (ms : List Running) → n ≤ m → EachRan n w ds ms → EachRan m w ds ms
  deeper_ran n m ds ms le = each_weaker (λ r. OkRan n (r w ds)) (λ r. OkRan m (r w ds)) (λ r h. ran_more n m (r w ds) le h) ms

  mutual
    pub stage_nested : (s : StageNode) (os : List ℕ) (b : ℕ) (ds : List Fields) → EachIn IsTold s → EachIn StageHasSteps s → AllSay (bounds_at s b) → Each (IsNested b) ds → OkRan (bound_behind s b) (runs s os w ds)
    stage_nested (stage h ps) os b ds told steps say k =
        head_nested h (deepest_end ps (begins h b)) b (running ps) os ds told.0 steps.0
        (λ es l. pipes_nested ps (begins h b) es told.1 steps.1 (each_front SaysSomething (bounds_within ps (begins h b)) (bound_behind (stage h ps) b ∷ []) say) l)
        (each_back SaysSomething (bounds_within ps (begins h b)) (bound_behind (stage h ps) b ∷ []) say).0 k

    pub stages_nested : (ss : Stages) (b : ℕ) (ds : List Fields) → EachStage IsTold ss → EachStage StageHasSteps ss → AllSay (bounds ss b) → Each (IsNested b) ds → OkRan (bound_after ss b) (written ss w ds)
    stages_nested no_stages b ds told steps say k = k
    stages_nested (placed s os ss) b ds told steps say k =
        ran_then (bound_behind s b) (bound_after ss (bound_behind s b)) (runs s os w ds) (written ss w)
        (stage_nested s os b ds told.0 steps.0 (each_front SaysSomething (bounds_at s b) (bounds ss (bound_behind s b)) say) k)
        (λ es l. stages_nested ss (bound_behind s b) es told.1 steps.1 (each_back SaysSomething (bounds_at s b) (bounds ss (bound_behind s b)) say) l)

    pipes_nested : (ps : Pipes) (b : ℕ) (ds : List Fields) → EachPiped IsTold ps → EachPiped StageHasSteps ps → AllSay (bounds_within ps b) → Each (IsNested b) ds → EachRan (deepest_end ps b) w ds (running ps)
    pipes_nested no_pipes b ds told steps say k = tt
    pipes_nested (pipe ss ps) b ds told steps say k = (
      ran_more (bound_after ss b) (max (bound_after ss b) (deepest_end ps b)) (written ss w ds) (omega arith) (stages_nested ss b ds told.0 steps.0 (each_front SaysSomething (bounds ss b) (bounds_within ps b) say) k),
      deeper_ran (deepest_end ps b) (max (bound_after ss b) (deepest_end ps b)) ds (running ps) (omega arith) (pipes_nested ps b ds told.1 steps.1 (each_back SaysSomething (bounds ss b) (bounds_within ps b) say) k),
    )

-- ---- in the words of the law

collections_each : (w : World) → CollectionsAreNested w → EachField (Each (IsNested 100)) w
collections_each w h =
    each_weaker (λ c. All (IsNested 100) c.1) (λ c. Each (IsNested 100) c.1) (λ c k. recursion_from_All (IsNested 100) c.1 k) w (recursion_from_All (λ c. All (IsNested 100) c.1) w h)

ran_all : (n : ℕ) (r : Ran) (es : List Fields) → OkRan n r → r ≡ Ok es → All (IsNested n) es
ran_all n r es h e = All-from_recursion (IsNested n) es (rw e at h)

pub stage_within : (s : StageNode) (os : List ℕ) (w : World) (b : ℕ) (ds es : List Fields) → EachIn IsTold s → EachIn StageHasSteps s → CollectionsAreNested w → All SaysSomething (bounds_at s b) → All (IsNested b) ds → runs s os w ds ≡ Ok es → All (IsNested (bound_behind s b)) es
stage_within s os w b ds es told steps collections say h =
    ran_all (bound_behind s b) (runs s os w ds) es (stage_nested w (collections_each w collections) s os b ds told steps (recursion_from_All SaysSomething (bounds_at s b) say) (recursion_from_All (IsNested b) ds h))

pub stages_within : (ss : Stages) (w : World) (b : ℕ) (ds es : List Fields) → EachStage IsTold ss → EachStage StageHasSteps ss → CollectionsAreNested w → All SaysSomething (bounds ss b) → All (IsNested b) ds → written ss w ds ≡ Ok es → All (IsNested (bound_after ss b)) es
stages_within ss w b ds es told steps collections say h =
    ran_all (bound_after ss b) (written ss w ds) es (stages_nested w (collections_each w collections) ss b ds told steps (recursion_from_All SaysSomething (bounds ss b) say) (recursion_from_All (IsNested b) ds h))

-- ---- what the limits let pass

behind_within : (n : ℕ) (s : StageNode) (b : ℕ) → Each (λ k. k ≤ n) (bounds_at s b) → bound_behind s b ≤ n
behind_within n (stage h ps) b k = (each_back (λ m. m ≤ n) (bounds_within ps (begins h b)) (bound_behind (stage h ps) b ∷ []) k).0

after_within : (n : ℕ) (ss : Stages) (b : ℕ) → b ≤ n → Each (λ k. k ≤ n) (bounds ss b) → bound_after ss b ≤ n
after_within n no_stages b le h = le
after_within n (placed s os ss) b le h =
    after_within n ss (bound_behind s b) (behind_within n s b (each_front (λ k. k ≤ n) (bounds_at s b) (bounds ss (bound_behind s b)) h)) (each_back (λ k. k ≤ n) (bounds_at s b) (bounds ss (bound_behind s b)) h)

pub passed_within : (ss : Stages) (w : World) (ds es : List Fields) → EachStage IsTold ss → EachStage StageHasSteps ss → CollectionsAreNested w → All (IsNested 100) ds → past_limits ss ≡ None → written ss w ds ≡ Ok es → All (IsNested 1000) es
passed_within ss w ds es told steps collections h passes given =
    let keep : All (λ n. n ≤ 1000) (bounds ss 100) = none_is ss (none_refused ss passes).1 in
    let within : bound_after ss 100 ≤ 1000 = after_within 1000 ss 100 (omega arith) (recursion_from_All (λ n. n ≤ 1000) (bounds ss 100) keep) in
    All-weaker (IsNested (bound_after ss 100)) (IsNested 1000) (λ d k. omega arith) es
    (stages_within ss w 100 ds es told steps collections (All-weaker (λ n. n ≤ 1000) SaysSomething (λ n k. omega arith) (bounds ss 100) keep) h given)

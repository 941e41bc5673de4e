-- The operator of a stage over a whole list.
use Rattle.std.proofs.Common.{◌≡◌, ℕ, zero, suc, ◌+◌, ◌-◌, ◌<◌, Bool, true, false, cond, List, [], ◌∷◌, ◌++◌, map, length, take, drop, refl, sym, ap, ◌∙◌, arith, append_assoc, append-nil, zero-add}
use Rattle.std.specs.Prelude.{Option, Some, None, Result, Ok, Err, ◌==◌, not}
use Rattle.bson_value.specs.Tree.{Tree, leaf}
use Rattle.bson_value.specs.declared.eval_code.EvalCode.{EvalCode}
use Rattle.bson_value.specs.Paths.{Steps}
use Rattle.expr_tree.specs.QueryNode.{QueryNode}
use Rattle.stage_tree.specs.Stage.{Made, StageHead, keep, match, project, add_fields, unset, replace_root, unwind, group, sort, limit, skip, count, lookup, graph_lookup, facet, union, window, merge}
use Rattle.stage_tree.specs.Outcome.{Fields, Given, World, Running, both, each_doc}
use Rattle.bson_value.specs.Paths.{keep as keep_paths}
use Rattle.stage_tree.specs.Rows.{steps_of, unset_all, add_fields_row, replace_root_row, unwind_row, match_row, project_row, count_row, number_of}
use Rattle.std.proofs.lemmas.Bool.Decides.{nat_tests}
use Rattle.stage_tree.specs.Written.{row}
use Rattle.reshape_stage.specs.Work.{Shape, keeps, passes, includes, removes, sets, becomes, unwinds, Work, each, limiting, skipping, counting, shaped, gives, after, ends, after_all, fed, in_all, started, one_item, project_shape}
use Rattle.reshape_stage.specs.Laws.{item_row, row_of}
use Rattle.reshape_stage.proofs.Joined.{both-assoc, both-none}

-- ---- the same with each document

fed_each : (s : Shape) (ds : List Fields) → fed (each s) ds ≡ each_doc (shaped s) ds
fed_each s [] = refl
fed_each s (d ∷ ds) = ap (both (λ xs ys. xs ++ ys) (shaped s d)) (fed_each s ds)

after_each : (s : Shape) (ds : List Fields) → after_all (each s) ds ≡ each s
after_each s [] = refl
after_each s (d ∷ ds) = after_each s ds

pub in_all_each : (s : Shape) (ds : List Fields) → in_all (each s) ds ≡ each_doc (shaped s) ds
in_all_each s ds =
    ap (λ (w : Work). both (λ xs ys. xs ++ ys) (fed (each s) ds) (Ok (ends w))) (after_each s ds) ∙ both-none (fed (each s) ds) ∙ fed_each s ds

-- one document for each
each_one : (f : Fields → Fields) (go : Fields → Given) (ds : List Fields) → ((d : Fields) → go d ≡ Ok (f d ∷ [])) → each_doc go ds ≡ Ok (map f ds)
each_one f go [] h = refl
each_one f go (d ∷ ds) h = rw (h d, each_one f go ds h) refl

each_same : (f g : Fields → Given) (ds : List Fields) → ((d : Fields) → f d ≡ g d) → each_doc f ds ≡ each_doc g ds
each_same f g [] h = refl
each_same f g (d ∷ ds) h = rw (h d, each_same f g ds h) refl

excluded : (keeps_id excludes : Bool) (ps : List Steps) (ms : Made) (d : Fields) → shaped (project_shape keeps_id excludes ps ms) d ≡ project_row keeps_id excludes ps ms d
excluded true true ps ms d = refl
excluded false true ps ms d = refl
excluded true false ps ms d = refl
excluded false false ps ms d = refl

-- ---- the first documents, those behind them, and their number

suc_not_zero : (n : ℕ) → (suc n == 0) ≡ false
suc_not_zero n = grind (arith, nat_tests)

suc_less : (n : ℕ) → suc n - 1 ≡ n
suc_less n = omega arith

limit_ends : (n : ℕ) (ds : List Fields) → ends (after_all (limiting n) ds) ≡ []
limit_ends n [] = refl
limit_ends n (d ∷ ds) = limit_ends (n - 1) ds

one_let : (n : ℕ) (d : Fields) (ds : List Fields) → fed (limiting n) ds ≡ Ok (take n ds) → fed (limiting (suc n)) (d ∷ ds) ≡ Ok (take (suc n) (d ∷ ds))
one_let n d ds h =
    ap (λ (b : Bool). both (λ xs ys. xs ++ ys) (Ok (cond b [] (d ∷ []))) (fed (limiting (suc n - 1)) ds)) (suc_not_zero n)
    ∙ ap (λ (m : ℕ). both (λ xs ys. xs ++ ys) (Ok (d ∷ [])) (fed (limiting m) ds)) (suc_less n)
    ∙ ap (both (λ xs ys. xs ++ ys) (Ok (d ∷ []))) h

limit_fed : (n : ℕ) (ds : List Fields) → fed (limiting n) ds ≡ Ok (take n ds)
limit_fed zero [] = refl
limit_fed (suc n) [] = refl
limit_fed zero (d ∷ ds) = rw (limit_fed 0 ds) refl
limit_fed (suc n) (d ∷ ds) = one_let n d ds (limit_fed n ds)

limited : (n : ℕ) (ds : List Fields) → in_all (limiting n) ds ≡ Ok (take n ds)
limited n ds = rw (limit_fed n ds, limit_ends n ds) (ap Ok (append-nil (take n ds)))

skip_ends : (n : ℕ) (ds : List Fields) → ends (after_all (skipping n) ds) ≡ []
skip_ends n [] = refl
skip_ends n (d ∷ ds) = skip_ends (n - 1) ds

one_left : (n : ℕ) (d : Fields) (ds : List Fields) → fed (skipping n) ds ≡ Ok (drop n ds) → fed (skipping (suc n)) (d ∷ ds) ≡ Ok (drop (suc n) (d ∷ ds))
one_left n d ds h =
    ap (λ (b : Bool). both (λ xs ys. xs ++ ys) (Ok (cond b (d ∷ []) [])) (fed (skipping (suc n - 1)) ds)) (suc_not_zero n)
    ∙ ap (λ (m : ℕ). both (λ xs ys. xs ++ ys) (Ok []) (fed (skipping m) ds)) (suc_less n)
    ∙ ap (both (λ xs ys. xs ++ ys) (Ok [])) h

skip_fed : (n : ℕ) (ds : List Fields) → fed (skipping n) ds ≡ Ok (drop n ds)
skip_fed zero [] = refl
skip_fed (suc n) [] = refl
skip_fed zero (d ∷ ds) = rw (skip_fed 0 ds) refl
skip_fed (suc n) (d ∷ ds) = one_left n d ds (skip_fed n ds)

skipped : (n : ℕ) (ds : List Fields) → in_all (skipping n) ds ≡ Ok (drop n ds)
skipped n ds = rw (skip_fed n ds, skip_ends n ds) (ap Ok (append-nil (drop n ds)))

count_fed : (name : List ℕ) (n : ℕ) (ds : List Fields) → fed (counting name n) ds ≡ Ok []
count_fed name n [] = refl
count_fed name n (d ∷ ds) = rw (count_fed name (n + 1) ds) refl

count_after : (name : List ℕ) (n : ℕ) (ds : List Fields) → after_all (counting name n) ds ≡ counting name (n + length ds)
count_after name n [] = ap (counting name) (omega arith)
count_after name n (d ∷ ds) = count_after name (n + 1) ds ∙ ap (counting name) (omega arith)

count_ends : (name : List ℕ) (ds : List Fields) → ends (counting name (0 + length ds)) ≡ count_row name ds
count_ends name [] = refl
count_ends name (d ∷ ds) = rw (zero-add (length (d ∷ ds)), suc_not_zero (length ds)) refl

counted : (name : List ℕ) (ds : List Fields) → in_all (counting name 0) ds ≡ Ok (count_row name ds)
counted name ds = rw (count_fed name 0 ds, count_after name 0 ds) (ap Ok (count_ends name ds))

-- ---- each stage

some_work : {A : Type 0} (v w : A) → Some v ≡ Some w → v ≡ w
some_work v w e = cc

in_all_by : (v w : Work) (ds : List Fields) (g : Given) → Some v ≡ Some w → in_all v ds ≡ g → in_all w ds ≡ g
in_all_by v w ds g e h = ap (λ (x : Work). in_all x ds) (sym (some_work v w e)) ∙ h

item_is_row : (is : List (QueryNode × ℕ)) (w : Work) (ds : List Fields) → one_item is ≡ Some w → in_all w ds ≡ item_row is ds
item_is_row [] w ds e = absurd cc
item_is_row (i ∷ []) w ds e = in_all_by (each (passes i.0)) w ds (each_doc (match_row i.0) ds) e (in_all_each (passes i.0) ds ∙ each_same (shaped (passes i.0)) (match_row i.0) ds (λ d. refl))
item_is_row (i ∷ j ∷ is) w ds e = absurd cc

shape_row : (s : Shape) (w : Work) (ds : List Fields) (go : Fields → Given) → Some (each s) ≡ Some w → ((d : Fields) → shaped s d ≡ go d) → in_all w ds ≡ each_doc go ds
shape_row s w ds go e h = in_all_by (each s) w ds (each_doc go ds) e (in_all_each s ds ∙ each_same (shaped s) go ds h)

map_row : (s : Shape) (w : Work) (ds : List Fields) (f : Fields → Fields) → Some (each s) ≡ Some w → ((d : Fields) → shaped s d ≡ Ok (f d ∷ [])) → in_all w ds ≡ Ok (map f ds)
map_row s w ds f e h = in_all_by (each s) w ds (Ok (map f ds)) e (in_all_each s ds ∙ each_one f (shaped s) ds h)

pub operator_is_row : (h : StageHead) (work : Work) (ms : List Running) (w : World) (ds : List Fields) → started h ≡ Some work → in_all work ds ≡ row_of h ms w ds
operator_is_row (keep ns) work ms w ds e = map_row (keeps (steps_of ns)) work ds (keep_paths (steps_of ns)) e (λ d. refl)
operator_is_row (match is) work ms w ds e = item_is_row is work ds e
operator_is_row (project a b ps made) work ms w ds e = shape_row (project_shape a b ps made) work ds (project_row a b ps made) e (excluded a b ps made)
operator_is_row (add_fields made) work ms w ds e = shape_row (sets made) work ds (add_fields_row made) e (λ d. refl)
operator_is_row (unset ps) work ms w ds e = map_row (removes ps) work ds (unset_all ps) e (λ d. refl)
operator_is_row (replace_root n) work ms w ds e = shape_row (becomes n) work ds (replace_root_row n) e (λ d. refl)
operator_is_row (unwind p i b) work ms w ds e = shape_row (unwinds p i b) work ds (unwind_row p i b) e (λ d. refl)
operator_is_row (group n ps b) work ms w ds e = absurd cc
operator_is_row (sort ks c) work ms w ds e = absurd cc
operator_is_row (limit n) work ms w ds e = in_all_by (limiting n) work ds (Ok (take n ds)) e (limited n ds)
operator_is_row (skip n) work ms w ds e = in_all_by (skipping n) work ds (Ok (drop n ds)) e (skipped n ds)
operator_is_row (count name) work ms w ds e = in_all_by (counting name 0) work ds (Ok (count_row name ds)) e (counted name ds)
operator_is_row (lookup f l g t u) work ms w ds e = absurd cc
operator_is_row (graph_lookup f s a b t m d r) work ms w ds e = absurd cc
operator_is_row (facet ns) work ms w ds e = absurd cc
operator_is_row (union n) work ms w ds e = absurd cc
operator_is_row (window n ks os) work ms w ds e = absurd cc
operator_is_row (merge t m u) work ms w ds e = absurd cc

-- A chain's run is the written run.
use Rattle.std.proofs.Common.{◌≡◌, ℕ, Bool, true, false, ◌&&◌, List, [], ◌∷◌, ◌++◌, map, refl, sym, ap, ◌∙◌, append-nil}
use Rattle.std.specs.Prelude.{Option, Some, None, Ok, Err}
use Rattle.bson_value.specs.declared.eval_code.EvalCode.{EvalCode}
use Rattle.bson_value.specs.declared.errors.Failure.{Failure}
use Rattle.expr_tree.specs.QueryNode.{QueryNode}
use Rattle.stage_tree.specs.Stage.{StageHead, keep, match, project, add_fields, unset, replace_root, unwind, group, sort, limit, skip, count, lookup, graph_lookup, facet, union, window, merge, StageNode, stage, Stages, no_stages, placed, Pipes}
use Rattle.stage_tree.specs.Outcome.{Fields, Given, Ran, World, Running, each_doc, at_stage, least_origin, ◌>>=◌}
use Rattle.stage_tree.specs.Rows.{match_row}
use Rattle.stage_tree.specs.Written.{row, matched, run, runs, written, running}
use Rattle.reshape_stage.specs.Work.{Work, each, passes, started as work_for, in_all}
use Rattle.reshape_stage.specs.Laws.{row_of}
use Rattle.reshape_stage.proofs.Whole.{operator_is_row}
use Rattle.stage_chain.specs.Chain.{Step, begun, is_reshape, is_built, item_steps, one_step, steps_for, stage_steps, started, fed, finished, failure_of, pushed_each, outcome, ended, ran}
use Rattle.stage_chain.proofs.Fed.{Have, have_each, meaning, ended_is}

-- stages before the first document
abbrev AreFresh : List Step → Type 0
AreFresh [] = Unit {0}
AreFresh (s ∷ ss) = (s.failed ≡ None) × AreFresh ss

have_none : (ss : List Step) → AreFresh ss → Have ss [] ss []
have_none [] h = refl
have_none (s ∷ ss) h = (refl, (refl, (h.0, have_none ss h.1)))

fresh_both : (ss ts : List Step) → AreFresh ss → AreFresh ts → AreFresh (ss ++ ts)
fresh_both [] ts g h = h
fresh_both (s ∷ ss) ts g h = (g.0, fresh_both ss ts g.1 h)

fresh_items : (is : List (QueryNode × ℕ)) → AreFresh (item_steps is)
fresh_items [] = tt
fresh_items (i ∷ is) = (refl, fresh_items is)

fresh_one : (n : ℕ) (o : Option Work) → AreFresh (one_step n o)
fresh_one n None = tt
fresh_one n (Some w) = (refl, tt)

fresh_head : (h : StageHead) (os : List ℕ) → AreFresh (steps_for h os)
fresh_head (match is) os = fresh_items is
fresh_head (keep ns) os = fresh_one (least_origin os) (work_for (keep ns))
fresh_head (project a b ps made) os = fresh_one (least_origin os) (work_for (project a b ps made))
fresh_head (add_fields made) os = fresh_one (least_origin os) (work_for (add_fields made))
fresh_head (unset ps) os = fresh_one (least_origin os) (work_for (unset ps))
fresh_head (replace_root n) os = fresh_one (least_origin os) (work_for (replace_root n))
fresh_head (unwind p i b) os = fresh_one (least_origin os) (work_for (unwind p i b))
fresh_head (group n ps b) os = fresh_one (least_origin os) (work_for (group n ps b))
fresh_head (sort ks c) os = fresh_one (least_origin os) (work_for (sort ks c))
fresh_head (limit n) os = fresh_one (least_origin os) (work_for (limit n))
fresh_head (skip n) os = fresh_one (least_origin os) (work_for (skip n))
fresh_head (count name) os = fresh_one (least_origin os) (work_for (count name))
fresh_head (lookup f l g t u) os = fresh_one (least_origin os) (work_for (lookup f l g t u))
fresh_head (graph_lookup f s a b t m d r) os = fresh_one (least_origin os) (work_for (graph_lookup f s a b t m d r))
fresh_head (facet ns) os = fresh_one (least_origin os) (work_for (facet ns))
fresh_head (union n) os = fresh_one (least_origin os) (work_for (union n))
fresh_head (window n ks os') os = fresh_one (least_origin os) (work_for (window n ks os'))
fresh_head (merge t m u) os = fresh_one (least_origin os) (work_for (merge t m u))

fresh_stage : (n : StageNode) (os : List ℕ) → AreFresh (stage_steps n os)
fresh_stage (stage h ps) os = fresh_head h os

fresh_all : (ss : Stages) → AreFresh (started ss)
fresh_all no_stages = tt
fresh_all (placed n os ss) = fresh_both (stage_steps n os) (started ss) (fresh_stage n os) (fresh_all ss)

-- ---- what the stages mean

then_assoc : (r : Ran) (f g : List Fields → Ran) → ((r >>= f) >>= g) ≡ (r >>= λ ds. f ds >>= g)
then_assoc (Ok ds) f g = refl
then_assoc (Err e) f g = refl

then_same : (r : Ran) (f g : List Fields → Ran) → ((ds : List Fields) → f ds ≡ g ds) → (r >>= f) ≡ (r >>= g)
then_same (Ok ds) f g h = h ds
then_same (Err e) f g h = refl

meaning-append : (ss ts : List Step) (ds : List Fields) → meaning (ss ++ ts) ds ≡ (meaning ss ds >>= meaning ts)
meaning-append [] ts ds = refl
meaning-append (s ∷ ss) ts ds =
    then_same (at_stage s.origin (in_all s.work ds)) (meaning (ss ++ ts)) (λ es. meaning ss es >>= meaning ts) (meaning-append ss ts) ∙ sym (then_assoc (at_stage s.origin (in_all s.work ds)) (meaning ss) (meaning ts))

items_mean : (is : List (QueryNode × ℕ)) (ms : List Running) (w : World) (ds : List Fields) → meaning (item_steps is) ds ≡ matched is ds
items_mean [] ms w ds = refl
items_mean (i ∷ is) ms w ds =
    ap (λ (g : Given). at_stage i.1 g >>= meaning (item_steps is)) (operator_is_row (match (i ∷ [])) (each (passes i.0)) ms w ds refl)
    ∙ then_same (at_stage i.1 (each_doc (match_row i.0) ds)) (meaning (item_steps is)) (matched is) (items_mean is ms w)

one_means : (r : Ran) → (r >>= λ ds. Ok ds) ≡ r
one_means (Ok ds) = refl
one_means (Err e) = refl

module _ (os : List ℕ) (ms : List Running) (w : World) (ds : List Fields) where
  head_means : (h : StageHead) (work : Work) → work_for h ≡ Some work → meaning (begun (least_origin os) work ∷ []) ds ≡ at_stage (least_origin os) (row_of h ms w ds)
  head_means h work e = one_means (at_stage (least_origin os) (in_all work ds)) ∙ ap (at_stage (least_origin os)) (operator_is_row h work ms w ds e)

  stage_means : (h : StageHead) → is_reshape h ≡ true → meaning (steps_for h os) ds ≡ run h os ms w ds
  stage_means (match is) e = items_mean is ms w ds
  stage_means (keep ns) e = head_means (keep ns) _ refl
  stage_means (project a b ps made) e = head_means (project a b ps made) _ refl
  stage_means (add_fields made) e = head_means (add_fields made) _ refl
  stage_means (unset ps) e = head_means (unset ps) _ refl
  stage_means (replace_root n) e = head_means (replace_root n) _ refl
  stage_means (unwind p i b) e = head_means (unwind p i b) _ refl
  stage_means (group n ps b) e = absurd cc
  stage_means (sort ks c) e = absurd cc
  stage_means (limit n) e = head_means (limit n) _ refl
  stage_means (skip n) e = head_means (skip n) _ refl
  stage_means (count name) e = head_means (count name) _ refl
  stage_means (lookup f l g t u) e = absurd cc
  stage_means (graph_lookup f s a b t m d r) e = absurd cc
  stage_means (facet ns) e = absurd cc
  stage_means (union n) e = absurd cc
  stage_means (window n ks os') e = absurd cc
  stage_means (merge t m u) e = absurd cc

both_true : (a b : Bool) → (a && b) ≡ true → (a ≡ true) × (b ≡ true)
both_true true b e = (refl, e)
both_true false b e = absurd cc

started_means : (ss : Stages) (w : World) (ds : List Fields) → is_built ss ≡ true → meaning (started ss) ds ≡ written ss w ds
started_means no_stages w ds e = refl
started_means (placed (stage h ps) os ss) w ds e =
    let p = both_true (is_reshape h) (is_built ss) e in
    meaning-append (steps_for h os) (started ss) ds
    ∙ ap (λ (r : Ran). r >>= meaning (started ss)) (stage_means os (running ps) w ds h p.0)
    ∙ then_same (run h os (running ps) w ds) (meaning (started ss)) (written ss w) (λ es. started_means ss w es p.1)

pub chain_is_written : (ss : Stages) (w : World) (ds : List Fields) → is_built ss ≡ true → ran ss ds ≡ written ss w ds
chain_is_written ss w ds e =
    let c = started ss in
    let have : Have c ds (pushed_each c ds).0 (pushed_each c ds).1 = have_each c [] c [] ds (have_none c (fresh_all ss)) in
    ended_is c ds (pushed_each c ds).0 (pushed_each c ds).1 [] have ∙ ap (meaning c) (append-nil ds) ∙ started_means ss w ds e

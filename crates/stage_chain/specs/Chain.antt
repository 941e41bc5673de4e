-- The stages of a pipeline one after another, documents going through all of them (the manual, Aggregation Pipelines).
use Rattle.std.specs.Prelude.{◌≡◌, ℕ, Bool, true, false, ◌&&◌, List, [], ◌∷◌, ◌++◌, map, Option, Some, None, Ok, Err}
use Rattle.std.specs.Option.{option_map_or}
use Rattle.bson_value.specs.declared.eval_code.EvalCode.{EvalCode}
use Rattle.bson_value.specs.declared.errors.Failure.{Failure}
use Rattle.expr_tree.specs.QueryNode.{QueryNode}
use Rattle.stage_tree.specs.Stage.{StageHead, keep, match, project, add_fields, unset, replace_root, unwind, group, sort, limit, skip, count, lookup, graph_lookup, facet, union, window, merge, StageNode, stage, Stages, no_stages, placed}
use Rattle.stage_tree.specs.Outcome.{Fields, Given, Ran, World, least_origin}
use Rattle.stage_tree.specs.Written.{written}
use Rattle.reshape_stage.specs.Work.{Work, each, passes, started as work_for, after_all, fed as given_by, ends}
use Rattle.reshape_stage.specs.Seen.{noted}

-- a stage: what it has still to do, the number of the written stage, and the least code with which it has failed
pub record Step : Type 0 where
  pub work : Work
  pub origin : ℕ
  pub failed : Option EvalCode

-- ---- the stages that there are

abbrev pub is_reshape : StageHead → Bool
is_reshape (keep ns) = true
is_reshape (match is) = true
is_reshape (project a b ps ms) = true
is_reshape (add_fields ms) = true
is_reshape (unset ps) = true
is_reshape (replace_root e) = true
is_reshape (unwind p i b) = true
is_reshape (group e ps b) = false
is_reshape (sort ks c) = false
is_reshape (limit n) = true
is_reshape (skip n) = true
is_reshape (count name) = true
is_reshape (lookup f l g t u) = false
is_reshape (graph_lookup f s a b t m d r) = false
is_reshape (facet ns) = false
is_reshape (union n) = false
is_reshape (window e ks os) = false
is_reshape (merge t m u) = false

abbrev pub is_reshape_stage : StageNode → Bool
is_reshape_stage (stage h ps) = is_reshape h

-- each stage works document by document
abbrev pub is_built : Stages → Bool
is_built no_stages = true
is_built (placed s os ss) = is_reshape_stage s && is_built ss

abbrev pub begun : ℕ → Work → Step
begun n w = record { work = w; origin = n; failed = None }

-- the items of a Match, one after another, each with a number of its own
abbrev pub item_steps : List (QueryNode × ℕ) → List Step
item_steps is = map (λ i. begun i.1 (each (passes i.0))) is

abbrev pub one_step : ℕ → Option Work → List Step
one_step n None = []
one_step n (Some w) = begun n w ∷ []

abbrev pub steps_for : StageHead → List ℕ → List Step
steps_for (match is) os = item_steps is
steps_for h os = one_step (least_origin os) (work_for h)

abbrev pub stage_steps : StageNode → List ℕ → List Step
stage_steps (stage h ps) os = steps_for h os

abbrev pub started : Stages → List Step
started no_stages = []
started (placed s os ss) = stage_steps s os ++ started ss

-- ---- documents go through

-- the codes of a stage: what it fails with is noted
abbrev pub worse : Option EvalCode → Given → Option EvalCode
worse f (Ok ds) = f
worse f (Err c) = Some (noted f c)

-- what a stage lets on: nothing, once it has failed
abbrev pub let_on : Option EvalCode → Given → List Fields
let_on None (Ok ds) = ds
let_on None (Err c) = []
let_on (Some b) g = []

-- a stage behind some documents, and what it lets on
abbrev pub step_behind : Step → List Fields → Step
step_behind s ds = record { work = after_all s.work ds; origin = s.origin; failed = worse s.failed (given_by s.work ds) }

abbrev pub fed_step : Step → List Fields → Step × List Fields
fed_step s ds = (step_behind s ds, let_on s.failed (given_by s.work ds))

abbrev pub behind : Step → List Step × List Fields → List Step × List Fields
behind s q = (s ∷ q.0, q.1)

-- documents go through all stages, each over what the one before lets on
abbrev pub fed : List Step → List Fields → List Step × List Fields
fed [] ds = ([], ds)
fed (s ∷ ss) ds = behind (fed_step s ds).0 (fed ss (fed_step s ds).1)

abbrev pub pushed : List Step → Fields → List Step × List Fields
pushed ss d = fed ss (d ∷ [])

-- the last documents go through, and behind them each stage gives what it gives at the end
abbrev pub ended_step : Step → List Fields → Step × List Fields
ended_step s ds = (step_behind s ds, let_on s.failed (given_by s.work ds) ++ ends (after_all s.work ds))

abbrev pub drained : List Step → List Fields → List Step × List Fields
drained [] ds = ([], ds)
drained (s ∷ ss) ds = behind (ended_step s ds).0 (drained ss (ended_step s ds).1)

abbrev pub finished : List Step → List Step × List Fields
finished ss = drained ss []

-- the first stage that has failed
abbrev pub failure_or : Option EvalCode → ℕ → Option Failure → Option Failure
failure_or None n f = f
failure_or (Some c) n f = Some (record { stage = n; code = c })

abbrev pub failure_of : List Step → Option Failure
failure_of [] = None
failure_of (s ∷ ss) = failure_or s.failed s.origin (failure_of ss)

-- ---- a whole run

abbrev pub pushed_each : List Step → List Fields → List Step × List Fields
pushed_each ss [] = (ss, [])
pushed_each ss (d ∷ ds) = ((pushed_each (pushed ss d).0 ds).0, (pushed ss d).1 ++ (pushed_each (pushed ss d).0 ds).1)

abbrev pub outcome : Option Failure → List Fields → Ran
outcome None ds = Ok ds
outcome (Some f) ds = Err f

abbrev pub ended : List Step × List Fields → List Step × List Fields → Ran
ended r q = outcome (failure_of q.0) (r.1 ++ q.1)

-- the documents pushed one after another, and the end
abbrev pub ran : Stages → List Fields → Ran
ran ss ds = ended (pushed_each (started ss) ds) (finished (pushed_each (started ss) ds).0)

-- a chain's run is the written run: the same list, or the same failure
abbrev pub ChainIsWritten : Type 0
ChainIsWritten = (ss : Stages) (w : World) (ds : List Fields) → is_built ss ≡ true → ran ss ds ≡ written ss w ds

-- The limits of a pipeline: how many stages it has, and how deep a document behind each stage can be nested. A bound
-- that passes 2^64 - 1 counts as that.
use Rattle.std.specs.Prelude.{ℕ, suc, ◌+◌, ◌-◌, ◌*◌, max, Bool, false, ◌||◌, List, [], ◌∷◌, map, length, Option, Some, None, option_map, nat_lt, if◌then◌else◌}
use Rattle.bson_value.specs.Depth.{depth}
use Rattle.bson_value.specs.Paths.{Steps}
use Rattle.bson_value.specs.declared.acc_kind.AccKind.{AccKind}
use Rattle.expr_tree.specs.Node.{Node}
use Rattle.expr_tree.specs.Bound.{bound, around, no_more, one_more}
use Rattle.stage_tree.specs.Stage.{Made, WindowHead, accumulates, rank, dense_rank, place, shift, StageHead, keep, match, project, add_fields, unset, replace_root, unwind, group, sort, limit, skip, count, lookup, graph_lookup, facet, union, window, merge, StageNode, stage, Stages, no_stages, placed, Pipes, no_pipes, pipe}
use Rattle.stage_tree.specs.declared.command.BadCommand.{BadCommand}
use Rattle.stage_tree.specs.declared.command.CommandWhy.{CommandWhy}
use Rattle.stage_tree.specs.declared.command.CommandWhy.TheVariants as W

-- the number of stages, those of inner pipelines among them
abbrev mutual
  pub stages_in : Stages → ℕ
  stages_in no_stages = 0
  stages_in (placed s os ss) = stages_at s + stages_in ss

  pub stages_at : StageNode → ℕ
  stages_at (stage h ps) = suc (stages_within ps)

  pub stages_within : Pipes → ℕ
  stages_within no_pipes = 0
  stages_within (pipe ss ps) = stages_in ss + stages_within ps

-- an expression's value, over documents that are nested at most so deep
abbrev pub value_bound : ℕ → Node → ℕ
value_bound b e = bound e (around b [])

-- a value at a path: each step but the first can lead through an array and a document in it
abbrev pub at_path : Steps → ℕ → ℕ
at_path p x = no_more (2 * length p - 1 + x)

-- the greatest of n and of what is set at paths
abbrev pub set_bound : ℕ → List (Steps × ℕ) → ℕ
set_bound n [] = n
set_bound n (v ∷ vs) = set_bound (max (at_path v.0 v.1) n) vs

-- paths, set to the values of expressions
abbrev pub made_bound : Made → ℕ → ℕ
made_bound ms b = set_bound b (map (λ m. (m.0, value_bound b m.1)) ms)

-- the index of an `$unwind`
abbrev pub index_bound : Option Steps → ℕ → ℕ
index_bound None b = b
index_bound (Some p) b = set_bound b ((p, 0) ∷ [])

-- the greatest of n and the others
abbrev pub greatest : ℕ → List ℕ → ℕ
greatest n [] = n
greatest n (m ∷ ms) = greatest (max m n) ms

-- a value with documents of this pipeline or of a collection in it, or with values of these bounds
abbrev pub held_bound : ℕ → List ℕ → ℕ
held_bound b ns = one_more (greatest (max b 100) ns)

-- the accumulators of a `$group`, each with its name
abbrev pub Parts : Type 0
Parts = List (List ℕ × (AccKind × Node))

-- the greatest of n and of what the accumulators take
abbrev pub arguments_bound : ℕ → ℕ → Parts → ℕ
arguments_bound n b parts = greatest n (map (λ p. value_bound b p.1.1) parts)

-- `$group`: the key and the arguments, each in an array at most, in a document
abbrev pub group_bound : Node → Parts → ℕ → ℕ
group_bound key parts b = no_more (arguments_bound (value_bound b key) b parts + 2)

abbrev pub lookup_bound : Steps → ℕ → ℕ
lookup_bound target b = set_bound b ((target, held_bound b []) ∷ [])

-- the `$unwind` that was joined to a `$lookup`
abbrev pub joined_bound : Option (Steps × (Option Steps × Bool)) → ℕ → ℕ
joined_bound None b = b
joined_bound (Some u) b = index_bound u.1.0 b

-- the level that is set in each found document
abbrev pub level_bound : Option Steps → ℕ
level_bound None = 0
level_bound (Some p) = at_path p 0

abbrev pub graph_bound : Node → Steps → Option Steps → ℕ → ℕ
graph_bound start target level b = set_bound b ((target, held_bound b (value_bound b start ∷ level_bound level ∷ [])) ∷ [])

-- what a window function takes: its argument, and the default of a `$shift`
abbrev pub taken_bound : ℕ → WindowHead → ℕ
taken_bound b (accumulates k e low high) = value_bound b e
taken_bound b rank = 0
taken_bound b dense_rank = 0
taken_bound b place = 0
taken_bound b (shift e by default) = max (value_bound b e) (no_more (depth default))

-- the paths that a `$setWindowFields` sets, each with its function
abbrev pub Outputs : Type 0
Outputs = List (Steps × WindowHead)

-- the greatest of n and of what the functions take
abbrev pub functions_bound : ℕ → ℕ → Outputs → ℕ
functions_bound n b outputs = greatest n (map (λ o. taken_bound b o.1) outputs)

-- each path set to a value of bound x
abbrev pub outputs_bound : Outputs → ℕ → ℕ → ℕ
outputs_bound outputs x b = set_bound b (map (λ o. (o.0, x)) outputs)

-- `$setWindowFields`: each value counts with all that the functions and the partitions take
abbrev pub window_bound : Node → Outputs → ℕ → ℕ
window_bound partition outputs b = outputs_bound outputs (one_more (functions_bound (max (value_bound b partition) (max b 100)) b outputs)) b

-- the bound behind a stage, of the greatest bound behind its inner pipelines and the bound before it
abbrev pub behind_row : StageHead → ℕ → ℕ → ℕ
behind_row (keep names) inner b = b
behind_row (match items) inner b = b
behind_row (project keeps_id excludes ps made) inner b = if excludes then b else made_bound made b
behind_row (add_fields made) inner b = made_bound made b
behind_row (unset ps) inner b = b
behind_row (replace_root e) inner b = value_bound b e
behind_row (unwind p index stays) inner b = index_bound index b
behind_row (group key parts partial) inner b = group_bound key parts b
behind_row (sort keys cap) inner b = b
behind_row (limit n) inner b = b
behind_row (skip n) inner b = b
behind_row (count name) inner b = 1
behind_row (lookup name local field target u) inner b = joined_bound u (lookup_bound target b)
behind_row (graph_lookup name start from to target most level restrict) inner b = graph_bound start target level b
behind_row (facet names) inner b = no_more (inner + 2)
behind_row (union name) inner b = max inner b
behind_row (window partition keys outputs) inner b = window_bound partition outputs b
behind_row (merge target matched unmatched) inner b = b

-- the bound with which inner pipelines begin: those of a `$facet` have the documents before it, all others those of a
-- collection
abbrev pub begins : StageHead → ℕ → ℕ
begins (facet names) b = b
begins _ b = 100

abbrev mutual
  -- the bound behind a stage, of the bound before it
  pub bound_behind : StageNode → ℕ → ℕ
  bound_behind (stage h ps) b = behind_row h (deepest_end ps (begins h b)) b

  -- the bound behind the last stage
  pub bound_after : Stages → ℕ → ℕ
  bound_after no_stages b = b
  bound_after (placed s os ss) b = bound_after ss (bound_behind s b)

  -- the greatest bound behind pipelines that all begin with b
  pub deepest_end : Pipes → ℕ → ℕ
  deepest_end no_pipes b = 0
  deepest_end (pipe ss ps) b = max (bound_after ss b) (deepest_end ps b)

-- whether the bound behind a stage passes 1,000, or that behind a stage of an inner pipeline, also where it falls again
abbrev mutual
  pub passes_at : StageNode → ℕ → Bool
  passes_at (stage h ps) b = passes_within ps (begins h b) || nat_lt 1000 (bound_behind (stage h ps) b)

  pub passes : Stages → ℕ → Bool
  passes no_stages b = false
  passes (placed s os ss) b = passes_at s b || passes ss (bound_behind s b)

  pub passes_within : Pipes → ℕ → Bool
  passes_within no_pipes b = false
  passes_within (pipe ss ps) b = passes ss b || passes_within ps b

-- the place of the first stage that passes, the first stage having place n, with the bound b before it
abbrev pub first_passing : ℕ → ℕ → Stages → Option ℕ
first_passing n b no_stages = None
first_passing n b (placed s os ss) = if passes_at s b then Some n else first_passing (suc n) (bound_behind s b) ss

abbrev pub refused_at : ℕ → CommandWhy → BadCommand
refused_at n why = record { stage = n; why = why }

-- why a pipeline over documents of a collection is refused: too many stages first
abbrev pub past_limits : Stages → Option BadCommand
past_limits ss = if nat_lt 100 (stages_in ss) then Some (refused_at 0 W.Stages) else option_map (λ n. refused_at n W.StaticDepth) (first_passing 1 100 ss)

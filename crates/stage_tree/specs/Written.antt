-- The written run: the stages of a pipeline one after another, each over the list that the one before gave.
use Rattle.std.specs.Prelude.{ℕ, List, [], ◌∷◌, map, take, drop, Ok}
use Rattle.bson_value.specs.Paths.{keep as keep_paths}
use Rattle.expr_tree.specs.QueryNode.{QueryNode}
use Rattle.stage_tree.specs.Stage.{StageHead, keep, match, project, add_fields, unset, replace_root, unwind, sort, limit, skip, count, lookup, graph_lookup, facet, union, StageNode, stage, Stages, no_stages, placed, Pipes, no_pipes, pipe}
use Rattle.stage_tree.specs.Outcome.{Fields, Given, Ran, World, Running, each_doc, at_stage, least_origin, ◌>>=◌}
use Rattle.stage_tree.specs.Rows.{steps_of, unset_all, add_fields_row, project_row, replace_root_row, match_row, unwind_row, count_row}
use Rattle.stage_tree.specs.Sorting.{sort_row}
use Rattle.stage_tree.specs.Joining.{owned_in, lookup_row, graph_row, facet_row, union_row}

-- the list that a stage gives, by what the pipelines within it mean. `$group`, `$setWindowFields` and `$merge` aren't
-- here yet: each is a line more, before the last
abbrev pub row : StageHead → List Running → World → List Fields → Given
row (keep ns) ms w ds = Ok (map (keep_paths (steps_of ns)) ds)
row (project keeps_id excludes ps made) ms w ds = each_doc (project_row keeps_id excludes ps made) ds
row (add_fields made) ms w ds = each_doc (add_fields_row made) ds
row (unset ps) ms w ds = Ok (map (unset_all ps) ds)
row (replace_root e) ms w ds = each_doc (replace_root_row e) ds
row (unwind p index stays) ms w ds = each_doc (unwind_row p index stays) ds
row (limit n) ms w ds = Ok (take n ds)
row (skip n) ms w ds = Ok (drop n ds)
row (count name) ms w ds = Ok (count_row name ds)
row (sort keys cap) ms w ds = Ok (sort_row keys cap ds)
row (lookup name local field target u) ms w ds = lookup_row (owned_in name w) local field target u ds
row (graph_lookup name start from to target most depth restrict) ms w ds = each_doc (graph_row (owned_in name w) start from to target most depth restrict) ds
row (facet names) ms w ds = facet_row names ms w ds
row (union name) ms w ds = union_row name ms w ds
row _ ms w ds = Ok ds

-- the items of a Match, one after another, each with a number of its own
abbrev pub matched : List (QueryNode × ℕ) → List Fields → Ran
matched [] ds = Ok ds
matched (i ∷ is) ds = at_stage i.1 (each_doc (match_row i.0) ds) >>= matched is

-- a stage's list, or its failure
abbrev pub run : StageHead → List ℕ → List Running → Running
run (match is) os ms w ds = matched is ds
run h os ms w ds = at_stage (least_origin os) (row h ms w ds)

-- the first stage that fails gives the failure
abbrev mutual
  pub runs : StageNode → List ℕ → Running
  runs (stage h ps) os = run h os (running ps)

  pub written : Stages → Running
  written no_stages w ds = Ok ds
  written (placed s os ss) w ds = runs s os w ds >>= written ss w

  pub running : Pipes → List Running
  running no_pipes = []
  running (pipe ss ps) = written ss ∷ running ps

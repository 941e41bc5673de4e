-- How deep the documents of a pipeline may be nested.
use Rattle.std.specs.Prelude.{ℕ, ◌≤◌, List}
use Rattle.std.specs.List.{All}
use Rattle.bson_value.specs.Depth.{depth}
use Rattle.bson_value.specs.Tree.{doc, pairs_of}
use Rattle.stage_tree.specs.Outcome.{Fields, World}
use Rattle.stage_tree.specs.Stage.{Made, StageHead, project, add_fields, replace_root, group, graph_lookup, window, merge, StageNode, stage, Stages, no_stages, placed, Pipes, no_pipes, pipe}
use Rattle.stage_laws.specs.Depths.{HasSteps}

abbrev pub IsNested : ℕ → Fields → Type 0
IsNested n d = depth (doc (pairs_of d)) ≤ n

abbrev pub AreNested : ℕ → List Fields → Type 0
AreNested n ds = All (IsNested n) ds

-- the documents of each collection are nested at most 100 deep
abbrev pub CollectionsAreNested : World → Type 0
CollectionsAreNested w = All (λ c. AreNested 100 c.1) w

abbrev pub MadeHasSteps : Made → Type 0
MadeHasSteps made = All (λ m. HasSteps m.1) made

-- what the stage gives is told: that of `$group`, `$setWindowFields` and `$merge` isn't yet
abbrev pub IsTold : StageHead → Type 0
IsTold (group key parts partial) = ⊥
IsTold (window partition keys outputs) = ⊥
IsTold (merge target matched unmatched) = ⊥
IsTold _ = Unit {0}

-- each path into the document has a step, in the expressions of the stage
abbrev pub StageHasSteps : StageHead → Type 0
StageHasSteps (project keeps_id excludes ps made) = MadeHasSteps made
StageHasSteps (add_fields made) = MadeHasSteps made
StageHasSteps (replace_root e) = HasSteps e
StageHasSteps (graph_lookup name start from to target most level restrict) = HasSteps start
StageHasSteps _ = Unit {0}

abbrev mutual
  -- it is so with the stage, and with each in the pipelines within it
  pub EachIn : (StageHead → Type 0) → StageNode → Type 0
  EachIn Is (stage h ps) = Is h × EachPiped Is ps

  pub EachStage : (StageHead → Type 0) → Stages → Type 0
  EachStage Is no_stages = Unit {0}
  EachStage Is (placed s os ss) = EachIn Is s × EachStage Is ss

  pub EachPiped : (StageHead → Type 0) → Pipes → Type 0
  EachPiped Is no_pipes = Unit {0}
  EachPiped Is (pipe ss ps) = EachStage Is ss × EachPiped Is ps

-- The bounds of a pipeline, one behind each stage, and the first that passes 1,000.
use Rattle.std.specs.Prelude.{◌≡◌, ℕ, ◌≤◌, ◌<◌, suc, List, [], ◌∷◌, ◌++◌, length}
use Rattle.std.specs.List.{All, Any}
use Rattle.stage_tree.specs.Stage.{StageNode, stage, Stages, no_stages, placed, Pipes, no_pipes, pipe, stages_of}
use Rattle.pipeline_limits.specs.Limits.{begins, bound_behind, bound_after}

abbrev mutual
  -- behind the stages of the inner pipelines, and behind the stage
  pub bounds_at : StageNode → ℕ → List ℕ
  bounds_at (stage h ps) b = bounds_within ps (begins h b) ++ bound_behind (stage h ps) b ∷ []

  -- behind each stage, of the bound before the first
  pub bounds : Stages → ℕ → List ℕ
  bounds no_stages b = []
  bounds (placed s os ss) b = bounds_at s b ++ bounds ss (bound_behind s b)

  pub bounds_within : Pipes → ℕ → List ℕ
  bounds_within no_pipes b = []
  bounds_within (pipe ss ps) b = bounds ss b ++ bounds_within ps b

-- the n-th stage has a bound that passes 1,000, and no stage before it has one; the documents before the first stage
-- are those of a collection
pub record IsFirstTooDeep (items : List (StageNode × List ℕ)) (n : ℕ) : Type 0 where
  pub front : List (StageNode × List ℕ)
  pub at : StageNode × List ℕ
  pub back : List (StageNode × List ℕ)
  pub split : front ++ at ∷ back ≡ items
  pub place : suc (length front) ≡ n
  pub passes : Any (λ m. 1000 < m) (bounds_at at.0 (bound_after (stages_of front) 100))
  pub keeps : All (λ m. m ≤ 1000) (bounds (stages_of front) 100)

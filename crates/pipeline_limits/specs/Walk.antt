-- The bounds behind stages, as they are found one after another until one passes.
use Rattle.std.specs.Prelude.{ℕ, max, Option, Some, None, nat_lt, if◌then◌else◌}
use Rattle.std.specs.Option.{option_and_then}
use Rattle.stage_tree.specs.Stage.{StageHead, StageNode, stage, Stages, no_stages, placed, Pipes, no_pipes, pipe}
use Rattle.pipeline_limits.specs.Limits.{begins, behind_row}

abbrev pub head_in : StageNode → StageHead
head_in (stage h ps) = h

abbrev pub pipes_in : StageNode → Pipes
pipes_in (stage h ps) = ps

-- a bound that doesn't pass
abbrev pub unless_past : ℕ → Option ℕ
unless_past n = if nat_lt 1000 n then None else Some n

abbrev mutual
  pub walk_stage : StageNode → ℕ → Option ℕ
  walk_stage (stage h ps) b = option_and_then (λ n. unless_past (behind_row h n b)) (walk_pipes 0 ps (begins h b))

  pub walk : Stages → ℕ → Option ℕ
  walk no_stages b = Some b
  walk (placed s os ss) b = option_and_then (walk ss) (walk_stage s b)

  -- the greatest of n and of the bounds behind the pipelines
  pub walk_pipes : ℕ → Pipes → ℕ → Option ℕ
  walk_pipes n no_pipes b = Some n
  walk_pipes n (pipe ss ps) b = option_and_then (λ m. walk_pipes (max m n) ps b) (walk ss b)

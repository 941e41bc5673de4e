use Rattle.std.proofs.Common.{◌≡◌, drop, map}
use Rattle.stage_tree.specs.StageView.{made_in}
use Rattle.pipeline_limits.specs.Limits.{value_bound, set_bound, made_bound}
use Rattle.pipeline_limits.proofs.values.bound_with_made.Given as goal

abbrev pub invariant-loop-field : goal.invariant-loop-field
invariant-loop-field l = set_bound l.bound (map (λ m. (m.0, value_bound l.depth m.1)) (made_in (drop l.field-index l.made))) ≡ made_bound (made_in l.made) l.depth

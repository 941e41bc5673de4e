use Rattle.std.proofs.Common.{◌≡◌, ◌≤◌, ℕ, List, length, map, Bor}
use Rattle.std.specs.Prelude.{All}
use Rattle.bson_value.specs.Path.{IsStep}
use Rattle.bson_value.proofs.path.Path.read.Given as goal

-- the steps so far are the pieces so far, and are steps
abbrev pub invariant-loop-step : goal.invariant-loop-step
invariant-loop-step l =
    (goal.iterator-loop-step).can_next l.step-iterator ×
    (goal.iterator-loop-step).is_finite l.step-iterator ×
    (l.steps.items ≡ map (λ (s : Bor (List ℕ)). s.now) l.yielded) × All IsStep l.steps.items × (length l.steps.items ≤ 100)

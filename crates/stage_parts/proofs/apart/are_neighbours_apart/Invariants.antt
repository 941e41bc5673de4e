use Rattle.std.proofs.Common.{◌≡◌, length}
use Rattle.stage_parts.specs.Paths.{steps_in, are_neighbours_apart}
use Rattle.stage_parts.proofs.apart.are_neighbours_apart.Given as goal

abbrev pub invariant-loop-left : goal.invariant-loop-left
invariant-loop-left l = are_neighbours_apart (steps_in l.left) ≡ are_neighbours_apart (steps_in l.paths)

abbrev pub decreases-loop-left : goal.decreases-loop-left
decreases-loop-left l = length l.left

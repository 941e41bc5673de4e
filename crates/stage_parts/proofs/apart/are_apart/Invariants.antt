use Rattle.std.proofs.Common.{◌≡◌, take}
use Rattle.stage_parts.specs.Paths.{steps_in}
use Rattle.stage_parts.proofs.apart.are_apart.Given as goal

abbrev pub invariant-loop-path : goal.invariant-loop-path
invariant-loop-path l = steps_in l.all.items ≡ take l.path-index l.paths

use Rattle.std.proofs.Common.{◌≡◌, take, map}
use Rattle.stage_parts.specs.Paths.{steps_in}
use Rattle.stage_parts.proofs.apart.are_apart_in.Given as goal

abbrev pub invariant-loop-pair : goal.invariant-loop-pair
invariant-loop-pair g l = steps_in l.all.items ≡ map (λ p. p.0) (take l.pair-index l.pairs)

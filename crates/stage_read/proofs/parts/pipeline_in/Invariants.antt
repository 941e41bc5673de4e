use Rattle.std.proofs.Common.{◌≡◌, drop}
use Rattle.std.specs.Prelude.{None}
use Rattle.std.specs.Option.{option_map}
use Rattle.bson_value.specs.Tree.{trees_of}
use Rattle.stage_read.specs.Commands.{pipeline_from}
use Rattle.stage_read.proofs.parts.pipeline_in.Given as goal

-- what is left decides
abbrev pub invariant-loop-i : goal.invariant-loop-i
invariant-loop-i l = pipeline_from (option_map (λ r. trees_of r.now) l.found) (drop l.i l.doc) ≡ pipeline_from None (drop 1 l.doc)

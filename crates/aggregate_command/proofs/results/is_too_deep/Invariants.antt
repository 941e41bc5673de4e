use Rattle.std.proofs.Common.{◌≡◌, drop}
use Rattle.stage_tree.specs.Output.{is_too_deep}
use Rattle.aggregate_command.proofs.results.is_too_deep.Given as goal

-- the answer is that of the values that are left
abbrev pub invariant-loop-i : goal.invariant-loop-i
invariant-loop-i l = is_too_deep (drop l.i l.doc) ≡ is_too_deep l.doc

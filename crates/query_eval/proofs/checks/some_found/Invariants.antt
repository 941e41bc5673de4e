use Rattle.std.proofs.Common.{◌≡◌, drop}
use Rattle.std.specs.List.{list_any}
use Rattle.query_eval.specs.Checks.{passes}
use Rattle.query_eval.proofs.checks.some_found.Given as goal

abbrev pub invariant-loop-i : goal.invariant-loop-i
invariant-loop-i l = list_any (passes l.check) (drop l.i l.found) ≡ list_any (passes l.check) l.found

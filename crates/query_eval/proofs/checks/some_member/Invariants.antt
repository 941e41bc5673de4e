use Rattle.std.proofs.Common.{◌≡◌, drop, map}
use Rattle.std.specs.Prelude.{Some}
use Rattle.std.specs.List.{list_any}
use Rattle.query_eval.specs.Checks.{passes}
use Rattle.query_eval.proofs.checks.some_member.Given as goal

abbrev pub invariant-loop-i : goal.invariant-loop-i
invariant-loop-i l = list_any (passes l.check) (map Some (drop l.i l.list)) ≡ list_any (passes l.check) (map Some l.list)

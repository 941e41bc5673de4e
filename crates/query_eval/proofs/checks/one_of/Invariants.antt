use Rattle.std.proofs.Common.{◌≡◌, drop}
use Rattle.expr_tree.specs.Holds.{one_of}
use Rattle.query_eval.specs.Places.{candidates_in}
use Rattle.query_eval.proofs.checks.one_of.Given as goal

abbrev pub invariant-loop-i : goal.invariant-loop-i
invariant-loop-i l = one_of (drop l.i l.operands) (candidates_in l.candidates) ≡ one_of l.operands (candidates_in l.candidates)

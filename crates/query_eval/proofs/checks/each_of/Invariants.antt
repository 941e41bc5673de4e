use Rattle.std.proofs.Common.{◌≡◌, drop}
use Rattle.std.specs.List.{list_all}
use Rattle.expr_tree.specs.QueryNode.{equal}
use Rattle.expr_tree.specs.Holds.{some_relates}
use Rattle.query_eval.specs.Places.{candidates_in}
use Rattle.query_eval.proofs.checks.each_of.Given as goal

abbrev pub invariant-loop-i : goal.invariant-loop-i
invariant-loop-i l = list_all (λ t. some_relates equal t (candidates_in l.candidates)) (drop l.i l.operands) ≡ list_all (λ t. some_relates equal t (candidates_in l.candidates)) l.operands

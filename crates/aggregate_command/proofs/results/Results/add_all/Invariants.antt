use Rattle.std.proofs.Common.{◌≡◌, drop}
use Rattle.aggregate_command.specs.Gathered.{with_results}
use Rattle.aggregate_command.proofs.results.Results.add_all.Given as goal

-- the documents that are left are still to be added
abbrev pub invariant-loop-i : goal.invariant-loop-i
invariant-loop-i l = with_results l.self (drop l.i l.docs) ≡ with_results l.initial.self l.docs

use Rattle.std.proofs.Common.{◌≤◌, length}
use Rattle.engine_bench.proofs.project.project.Given as goal

abbrev pub invariant-loop : goal.invariant-loop
invariant-loop l = l.at ≤ length l.bytes

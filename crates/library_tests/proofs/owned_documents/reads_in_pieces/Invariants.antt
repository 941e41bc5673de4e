use Rattle.std.proofs.Common.{◌≡◌}
use Rattle.library_tests.proofs.owned_documents.reads_in_pieces.Given as goal

abbrev pub invariant-loop-i : goal.invariant-loop-i
invariant-loop-i g l = l.reader.shard ≡ 0

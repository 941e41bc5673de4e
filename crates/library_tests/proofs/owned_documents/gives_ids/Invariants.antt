use Rattle.std.proofs.Common.{◌≡◌}
use Rattle.library_tests.proofs.owned_documents.gives_ids.Given as goal

abbrev pub invariant-loop-id : goal.invariant-loop-id
invariant-loop-id l = l.reader.shard ≡ l.shard

use Rattle.std.proofs.Common.{◌≡◌, drop}
use Rattle.value_sets.specs.Digest.{mixed_bytes as are_mixed}
use Rattle.value_sets.proofs.digest.mixed_bytes.Given as goal

abbrev pub invariant-loop-byte : goal.invariant-loop-byte
invariant-loop-byte l = are_mixed l.number (drop l.byte-index l.bytes) ≡ are_mixed l.so_far l.bytes

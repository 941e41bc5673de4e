use Rattle.std.proofs.Common.{◌≡◌, drop}
use Rattle.chunk_map.specs.Keys.{key_order}
use Rattle.chunk_map.proofs.ranges.compare_keys.Given as goal

-- what is left decides
abbrev pub invariant-loop-i : goal.invariant-loop-i
invariant-loop-i l = key_order l.a l.b ≡ key_order (drop l.i l.a) (drop l.i l.b)

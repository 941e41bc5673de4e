use Rattle.std.proofs.Common.{◌≡◌, drop, map}
use Rattle.chunk_map.specs.Keys.{key_order}
use Rattle.chunk_map.specs.KeyParts.{part_of}
use Rattle.chunk_map.proofs.key.compare_parts.Given as goal

-- what is left decides
abbrev pub invariant-loop-i : goal.invariant-loop-i
invariant-loop-i l = key_order (map part_of l.parts) l.bound ≡ key_order (drop l.i (map part_of l.parts)) (drop l.i l.bound)

use Rattle.std.proofs.Common.{◌≡◌, ◌++◌, ◌-◌, drop, map}
use Rattle.key_codec.proofs.scalar.put_turned.Given as goal

abbrev pub invariant-loop-b : goal.invariant-loop-b
invariant-loop-b l = l.out.items ++ map (λ b. 255 - b) (drop l.b-index l.bytes) ≡ l.fn.out.items ++ map (λ b. 255 - b) l.bytes

use Rattle.std.proofs.Common.{◌≡◌, ◌++◌, drop, map}
use Rattle.chunk_map.proofs.key_form.copy_values.Given as goal

abbrev pub invariant-loop-i : goal.invariant-loop-i
invariant-loop-i l = map (λ p. p.1) l.doc ≡ l.values ++ map (λ p. p.1) (drop l.i l.doc)

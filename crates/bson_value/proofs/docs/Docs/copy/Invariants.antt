use Rattle.std.proofs.Common.{◌≡◌, ℕ, List, map, Bor}
use Rattle.bson_value.specs.Tree.{Tree}
use Rattle.bson_value.proofs.docs.Docs.copy.Given as goal

abbrev pub invariant-loop-doc : goal.invariant-loop-doc
invariant-loop-doc l = l.docs.items ≡ map (λ (d : Bor (List (List ℕ × Tree))). d.now) l.yielded

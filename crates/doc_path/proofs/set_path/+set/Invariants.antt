use Rattle.std.proofs.Common.{◌≡◌, ◌∷◌, ◌+◌, ◌*◌, ◌++◌, length, take, drop, map}
use Rattle.bson_value.specs.View.{tree_of}
use Rattle.bson_value.specs.Paths.{set_at, made_doc}
use Rattle.doc_path.proofs.set_path.+set.Given as goal

abbrev pub decreases-set_field : goal.decreases-set_field
decreases-set_field l = 4 * length l.rest.now

abbrev pub decreases-set_own : goal.decreases-set_own
decreases-set_own l = 4 * length l.rest.now + 1

abbrev pub decreases-set_each : goal.decreases-set_each
decreases-set_each l = 4 * length l.rest.now + 2

abbrev pub decreases-set_in : goal.decreases-set_in
decreases-set_in l = 4 * length l.rest.now + 3

abbrev pub invariant-set_each-loop-i : goal.invariant-set_each-loop-i
invariant-set_each-loop-i l = l.list ≡ map (made_doc (set_at (l.step ∷ l.rest) (tree_of l.value))) (take l.i l.initial.list) ++ drop l.i l.initial.list

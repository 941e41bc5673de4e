use Rattle.std.proofs.Common.{◌≡◌, ◌∷◌, ◌+◌, ◌*◌, ◌++◌, length, take, drop, map}
use Rattle.bson_value.specs.Paths.{unset, in_own}
use Rattle.doc_path.proofs.unset_path.+unset.Given as goal

abbrev pub decreases-unset_field : goal.decreases-unset_field
decreases-unset_field l = 4 * length l.rest.now

abbrev pub decreases-unset_own : goal.decreases-unset_own
decreases-unset_own l = 4 * length l.rest.now + 1

abbrev pub decreases-unset_each : goal.decreases-unset_each
decreases-unset_each l = 4 * length l.rest.now + 2

abbrev pub decreases-unset_in : goal.decreases-unset_in
decreases-unset_in l = 4 * length l.rest.now + 3

abbrev pub invariant-unset_each-loop-i : goal.invariant-unset_each-loop-i
invariant-unset_each-loop-i l = l.list ≡ map (in_own (unset (l.step ∷ l.rest))) (take l.i l.initial.list) ++ drop l.i l.initial.list

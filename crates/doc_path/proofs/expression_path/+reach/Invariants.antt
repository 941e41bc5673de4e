use Rattle.std.proofs.Common.{◌≡◌, ◌+◌, ◌*◌, length, take}
use Rattle.bson_value.specs.Paths.{field_reach, gather}
use Rattle.doc_path.proofs.expression_path.+reach.Given as goal

abbrev pub decreases-reach_in : goal.decreases-reach_in
decreases-reach_in l = 4 * length l.steps.now

abbrev pub decreases-reach_field : goal.decreases-reach_field
decreases-reach_field l = 4 * length l.rest.now + 1

abbrev pub decreases-reach_member : goal.decreases-reach_member
decreases-reach_member l = 4 * length l.rest.now + 2

abbrev pub decreases-reach_all : goal.decreases-reach_all
decreases-reach_all l = 4 * length l.rest.now + 3

abbrev pub invariant-reach_all-loop-i : goal.invariant-reach_all-loop-i
invariant-reach_all-loop-i l = l.found ≡ gather (field_reach l.step l.rest) (take l.i l.list)

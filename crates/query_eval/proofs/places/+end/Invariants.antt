use Rattle.std.proofs.Common.{◌+◌, ◌*◌, length}
use Rattle.query_eval.proofs.places.+end.Given as goal

abbrev pub decreases-end_in : goal.decreases-end_in
decreases-end_in l = 2 * length l.steps.now

abbrev pub decreases-end_in_field : goal.decreases-end_in_field
decreases-end_in_field l = 2 * length l.rest.now + 1

use Rattle.std.proofs.Common.{◌+◌, ◌*◌, length}
use Rattle.reshape_stage.proofs.unwind.+take.Given as goal

abbrev pub decreases-take_field : goal.decreases-take_field
decreases-take_field l = 2 * length l.rest.now

abbrev pub decreases-take_in : goal.decreases-take_in
decreases-take_in l = 2 * length l.rest.now + 1

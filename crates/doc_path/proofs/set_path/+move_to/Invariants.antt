use Rattle.std.proofs.Common.{◌+◌, ◌*◌, length}
use Rattle.doc_path.proofs.set_path.+move_to.Given as goal

abbrev pub decreases-move_to_field : goal.decreases-move_to_field
decreases-move_to_field l = 2 * length l.rest.now

abbrev pub decreases-move_into : goal.decreases-move_into
decreases-move_into l = 2 * length l.rest.now + 1

use Rattle.std.proofs.Common.{◌+◌, ◌*◌, length}
use Rattle.doc_path.proofs.plain_path.+plain.Given as goal

abbrev pub decreases-plain_field : goal.decreases-plain_field
decreases-plain_field l = 2 * length l.rest.now + 1

abbrev pub decreases-plain_in : goal.decreases-plain_in
decreases-plain_in l = 2 * length l.steps.now

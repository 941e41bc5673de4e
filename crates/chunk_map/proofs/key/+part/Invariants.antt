use Rattle.std.proofs.Common.{◌+◌, ◌*◌, length}
use Rattle.chunk_map.proofs.key.+part.Given as goal

abbrev pub decreases-field_part : goal.decreases-field_part
decreases-field_part l = 2 * length l.rest.now + 1

abbrev pub decreases-part_in : goal.decreases-part_in
decreases-part_in l = 2 * length l.steps.now

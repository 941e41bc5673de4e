use Rattle.chunk_map.proofs.Parts.{whole_path}
use Rattle.chunk_map.proofs.key.part_of.Goals as goal

pub returns-in-len1-up : goal.returns-in-len1-up
returns-in-len1-up c = rw (← c.steps.ensures) (whole_path c.field_part.result c.steps.result.now c.step-item.result _ c.in-len1-up.len_at_least c.step-item.is c.field_part.ensures)

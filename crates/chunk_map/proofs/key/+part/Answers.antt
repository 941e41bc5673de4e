use Rattle.std.proofs.Common.{sym}
use Rattle.chunk_map.proofs.Parts.{field_found, field_missing}
use Rattle.chunk_map.proofs.key.+part.Goals as goal

pub field_part-returns-in-Some : goal.field_part-returns-in-Some
field_part-returns-in-Some t c = field_found c.part_in.result c.args.step.now c.args.rest.now c.args.doc.now _ (rw (← c.bytes.ensures.same) (sym c.in-Some.ensures)) c.part_in.ensures

pub field_part-returns-in-None : goal.field_part-returns-in-None
field_part-returns-in-None t c = field_missing c.args.step.now c.args.rest.now c.args.doc.now (rw (← c.bytes.ensures.same) (sym c.in-None.ensures))

use Rattle.stage_read.proofs.FieldSteps.{entries_pairs}
use Rattle.stage_read.proofs.parts.count.Goals as goal

pub returns : goal.returns
returns c = rw (entries_pairs c.args.doc.now) c.len.ensures

use Rattle.std.proofs.Common.{◌∙◌, sym, ap}
use Rattle.stage_tree.specs.Rows.{id_name}
use Rattle.reshape_stage.proofs.Named.{find_gone, first_stays}
use Rattle.reshape_stage.proofs.fields.id_first.Goals as goal

pub put_first-requires : goal.put_first-requires
put_first-requires c = rw c.take.ensures.rest (find_gone id_name c.args.doc c.known.ensures)

pub returns-then-place-eq0 : goal.returns-then-place-eq0
returns-then-place-eq0 c = first_stays id_name c.args.doc (rw c.if-place-eq0.true at c.in-Some.ensures)

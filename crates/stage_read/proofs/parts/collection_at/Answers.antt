use Rattle.std.proofs.Common.{◌∙◌}
use Rattle.bson_value.specs.View.{tree_of}
use Rattle.stage_read.proofs.FieldSteps.{coll_some, coll_none}
use Rattle.stage_read.proofs.parts.collection_at.Goals as goal

pub returns-in-Some : goal.returns-in-Some
returns-in-Some c = c.collection_in.ensures ∙ coll_some c.args.doc.now (tree_of c.in-Some.value.now) c.in-Some.ensures

pub returns-in-None : goal.returns-in-None
returns-in-None c = coll_none c.args.doc.now c.in-None.ensures

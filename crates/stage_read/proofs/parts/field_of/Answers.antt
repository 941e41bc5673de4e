use Rattle.bson_value.specs.View.{tree_of}
use Rattle.stage_read.proofs.Sizes.{found_smaller}
use Rattle.stage_read.proofs.parts.field_of.Goals as goal

pub returns-clause-size : goal.returns-clause-size
returns-clause-size c = found_smaller (λ v. tree_of v.now) c.get.result c.args.name.now c.args.doc.now c.get.ensures

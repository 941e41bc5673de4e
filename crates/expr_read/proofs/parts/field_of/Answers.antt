use Rattle.bson_value.specs.View.{tree_of}
use Rattle.expr_read.proofs.Views.{found_seen, found_smaller}
use Rattle.expr_read.proofs.parts.field_of.Goals as goal

pub returns-clause-seen : goal.returns-clause-seen
returns-clause-seen c = found_seen (λ v. tree_of v.now) c.get.result c.args.name.now c.args.doc.now c.get.ensures

pub returns-clause-size : goal.returns-clause-size
returns-clause-size c = found_smaller (λ v. tree_of v.now) c.get.result c.args.name.now c.args.doc.now c.get.ensures

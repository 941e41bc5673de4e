use Rattle.std.proofs.Common.{◌∙◌}
use Rattle.bson_value.specs.View.{tree_of}
use Rattle.expr_read.proofs.Views.{bound_field}
use Rattle.expr_read.proofs.scope.has_name.Goals as goal

pub returns : goal.returns
returns c = c.is_some.ensures ∙ bound_field (λ v. tree_of v.now) c.get.result c.args.name.now c.args.doc.now c.get.ensures

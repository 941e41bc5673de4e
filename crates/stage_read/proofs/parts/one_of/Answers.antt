use Rattle.std.proofs.Common.{◌∙◌, sym}
use Rattle.bson_value.specs.View.{tree_of}
use Rattle.stage_read.proofs.Sizes.{one_field, not_one_field, field_size}
use Rattle.stage_read.proofs.parts.one_of.Goals as goal

pub returns-then-len-eq1-clause-field : goal.returns-then-len-eq1-clause-field
returns-then-len-eq1-clause-field c = one_field c.args.fields.now c.name.result.now (tree_of c.value.result.now) (sym c.len.ensures ∙ c.if-len-eq1.true) c.name.ensures c.value.ensures

pub returns-then-len-eq1-clause-size : goal.returns-then-len-eq1-clause-size
returns-then-len-eq1-clause-size c = field_size c.args.fields.now 0 (tree_of c.value.result.now) c.value.ensures

pub returns-else-len-eq1-clause-field : goal.returns-else-len-eq1-clause-field
returns-else-len-eq1-clause-field c = not_one_field c.args.fields.now (λ e. c.if-len-eq1.false (c.len.ensures ∙ e))

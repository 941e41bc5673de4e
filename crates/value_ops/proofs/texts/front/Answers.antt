use Rattle.std.proofs.Common.{ℕ, ◌-◌, length, take, ap, ◌∙◌}
use Rattle.std.proofs.Math.Nat.{sub-zero}
use Rattle.std.specs.Str.{chars, encode_utf8_all}
use Rattle.value_ops.proofs.CodePoints.{halves, front_fits, front_is, front_ends}
use Rattle.value_ops.proofs.texts.front.Goals as goal

pub overflow_sub-text : goal.overflow_sub-text
overflow_sub-text c = front_fits c.args.text.now c.past-after.result.now (encode_utf8_all (take c.args.count (chars c.args.text.now))) (halves c.args.text.now c.past-after.result.now c.args.count c.utf8.text c.past-after.utf8 c.past-after.ensures)

pub range-requires-clause-end_boundary : goal.range-requires-clause-end_boundary
range-requires-clause-end_boundary c = front_ends c.args.text.now c.past-after.result.now (encode_utf8_all (take c.args.count (chars c.args.text.now))) c.past-after.utf8 (halves c.args.text.now c.past-after.result.now c.args.count c.utf8.text c.past-after.utf8 c.past-after.ensures)

pub returns : goal.returns
returns c = c.range.ensures.value ∙ ap (λ (n : ℕ). take n c.args.text.now) (sub-zero (length c.args.text.now - length c.past-after.result.now)) ∙ front_is c.args.text.now c.past-after.result.now (encode_utf8_all (take c.args.count (chars c.args.text.now))) (halves c.args.text.now c.past-after.result.now c.args.count c.utf8.text c.past-after.utf8 c.past-after.ensures)

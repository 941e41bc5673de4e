use Rattle.std.proofs.Common.{rules, arith, sym}
use Rattle.command_words.proofs.Numerals.{too_long}
use Rattle.command_words.proofs.numbers.number_in.Goals as goal

pub returns-in_default-3 : goal.returns-in_default-3
returns-in_default-3 c = sym (too_long c.args.text.now c.args.low c.args.high c.in_default.field-0 (omega arith) (search rules) c.in_default.ensures.value.0)

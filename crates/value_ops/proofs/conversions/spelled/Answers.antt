use Rattle.std.proofs.Common.{sym, ◌∙◌, arith}
use Rattle.std.specs.Prelude.{None}
use Rattle.std.proofs.lemmas.Str.Pattern.{strip_prefix_char}
use Rattle.value_ops.proofs.Digits.{plain_spelled}
use Rattle.value_ops.proofs.conversions.spelled.Goals as goal

pub returns-in-None : goal.returns-in-None
returns-in-None c = c.widened.ensures ∙ c.unsigned-in-None.ensures ∙ sym (plain_spelled c.args.text.now (strip_prefix_char 45 c.args.text.now None c.in-None.ensures.cases (omega arith)))

use Rattle.std.proofs.Common.{◌≡◌, true, ap, sym, ◌∙◌, arith, pos}
use Rattle.std.specs.Option.{option_map}
use Rattle.std.specs.Str.{all_ascii_digits}
use Rattle.value_ops.proofs.Digits.{unsigned_is}
use Rattle.value_ops.proofs.conversions.unsigned.Goals as goal

pub returns : goal.returns
returns c =
    let all : all_ascii_digits c.args.digits.now ≡ true = sym (c.are_digits.ensures ∙ ap all_ascii_digits c.as_bytes.ensures.value) ∙ (cc) in
    ap (option_map (λ n. pos n)) c.ok.ensures.value ∙ unsigned_is c.args.digits.now c.parse.result c.parse.ensures.value.0 all (omega arith)

use Rattle.std.proofs.Common.{◌≡◌, ℕ, drop, sym, ap, ◌∙◌, arith}
use Rattle.std.specs.Str.{chars}
use Rattle.std.specs.Str.Iter.{chars_rest}
use Rattle.std.proofs.lemmas.Str.{IsUtf8-past_char, chars-nil}
use Rattle.value_ops.proofs.CodePoints.{nothing_past, one_past}
use Rattle.value_ops.proofs.texts.past.Goals as goal

pub loop-i-init : goal.loop-i-init
loop-i-init c = (tt, tt, rw c.chars-rest.ensures.rest c.utf8.text, ap chars c.chars-rest.ensures.rest)

pub returns-in-None : goal.returns-in-None
returns-in-None c = chars-nil ∙ sym (nothing_past (chars_rest c.loop-i.rest) (chars c.args.text.now) c.loop-i._i c.args.count c.in-None.ensures.steps.0.0 c.loop-i.invariant.3 (omega arith))

pub loop-i-preserved : goal.loop-i-preserved
loop-i-preserved c =
    let rest = chars_rest c.loop-i.rest in
    let more = chars_rest c.next.new.self in (
      tt,
      tt,
      IsUtf8-past_char rest more c.in-Some.field-0 c.loop-i.invariant.2 c.in-Some.ensures.steps.0,
      one_past rest more (chars c.args.text.now) c.in-Some.field-0 c.loop-i._i c.loop-i.invariant.2 c.in-Some.ensures.steps.0 c.loop-i.invariant.3,
    )

pub returns : goal.returns
returns c =
    let all : c.loop-i._i ≡ c.args.count = omega arith in
    ap chars c.as_str.ensures ∙ c.loop-i.invariant.3 ∙ ap (λ (n : ℕ). drop n (chars c.args.text.now)) all

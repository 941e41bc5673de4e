use Rattle.std.proofs.Common.{◌≡◌, ◌≤◌, ◌<◌, ℕ, List, length, Bor, refl, sym, ap, ◌∙◌, subst, arith, rules, eqb, lit<, get_or}
use Rattle.std.specs.Prelude.{All}
use Rattle.std.proofs.lemmas.List.{map-append, length-map}
use Rattle.std.proofs.lemmas.List.Splits.{length-slice_split}
use Rattle.std.proofs.lemmas.List.Elements.{All-push, All-get_or}
use Rattle.std.proofs.lemmas.Iterator.Splits.{YieldsList-from_str_split}
use Rattle.std.proofs.lemmas.Iterator.Consumers.{YieldsList-turn, YieldsList-end}
use Rattle.bson_value.specs.Path.{IsStep, IsPathText, pieces}
use Rattle.bson_value.proofs.path.Path.read.Goals as goal
use Rattle.bson_value.proofs.path.Path.read.Goals.{then-len-eq-MOST_STEPS-via-then-len-eq-MOST_STEPS, then-len-eq-MOST_STEPS-via-else-len-eq-MOST_STEPS+then-not-is_step}

-- a text with a piece that is no step, or with more than 100 pieces, is no path
bad_piece : (text : List ℕ) (n : ℕ) (s : List ℕ) → (n < length (pieces text)) × (s ≡ get_or (pieces text) n s) → ¬ IsStep s → ¬ IsPathText text
bad_piece text n s at bad h = bad (subst IsStep (sym at.1) (All-get_or IsStep (pieces text) n s at.0 h.steps.each))

too_many : (text : List ℕ) (n : ℕ) → 100 ≤ n → n < length (pieces text) → ¬ IsPathText text
too_many text n le lt h = absurd (omega (arith, h.steps.few))

pub returns-then-len-eq-MOST_STEPS : goal.returns-then-len-eq-MOST_STEPS
returns-then-len-eq-MOST_STEPS c =
    let turn = YieldsList-turn (YieldsList-from_str_split {s = c.into_iter-step-iterator.result} 46 c.args.text.now (lit< tt) (search rules) (cc) (cc)) c.loop-step.yielded _ c.loop-step.yielded_by _ _ c.in-Some.step c.in-Some.is c.next.ensures.steps in
    elim c.then-len-eq-MOST_STEPS.branch [
      | then-len-eq-MOST_STEPS-via-then-len-eq-MOST_STEPS w ↦ too_many c.args.text.now (length c.loop-step.yielded) (omega (arith, ap length c.loop-step.invariant.2, length-map c.loop-step.yielded (λ (s : Bor (List ℕ)). s.now))) turn.0
      | then-len-eq-MOST_STEPS-via-else-len-eq-MOST_STEPS+then-not-is_step w ↦ bad_piece c.args.text.now (length c.loop-step.yielded) c.in-Some.step.now turn (λ h. let no = w.if-not-is_step.ensures.1 h in absurd (search rules))
    ]

pub loop-step-preserved : goal.loop-step-preserved
loop-step-preserved c =
    let held : c.in_ok-of.field-0 ≡ c.in-Some.step.now = search rules in
    let step : IsStep c.in_ok-of.field-0 = rw held (c.if-not-is_step.ensures.0 (search rules)) in (
      tt,
      tt,
      c.in_ok-push.ensures.items ∙ rw (map-append, held, c.loop-step.invariant.2) refl,
      rw c.in_ok-push.ensures.items (All-push IsStep c.loop-step.steps.items c.in_ok-of.field-0 c.loop-step.invariant.3 step),
      omega (arith, c.in_ok-push.ensures.len, c.loop-step.invariant.4),
    )

pub returns : goal.returns
returns c =
    let all = YieldsList-end (YieldsList-from_str_split {s = c.into_iter-step-iterator.result} 46 c.args.text.now (lit< tt) (search rules) (cc) (cc)) c.loop-step.yielded _ c.loop-step.yielded_by _ _ c.in-None.is c.next.ensures.steps in
    let same : c.loop-step.steps.items ≡ pieces c.args.text.now = c.loop-step.invariant.2 ∙ all.0 in (
      record {
        utf8 = search rules;
        steps = record {
          some = omega (arith, length-slice_split (λ b. eqb b 46) c.args.text.now);
          few = omega (arith, ap length same, c.loop-step.invariant.4);
          each = subst (All IsStep) same c.loop-step.invariant.3;
        };
      },
      same,
    )

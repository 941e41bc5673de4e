use Rattle.std.proofs.Common.{◌∙◌, ap, refl, arith}
use Rattle.std.specs.Prelude.{Some}
use Rattle.bson_value.specs.declared.eval_code.EvalCode.{EvalCode}
use Rattle.reshape_stage.specs.Seen.{set_in, noted}
use Rattle.reshape_stage.proofs.Made.{turn_given, turn_failed, made_ends}
use Rattle.reshape_stage.proofs.values.values_for.Goals as goal
use Rattle.reshape_stage.proofs.values.values_for.Goals.{in-Ok+in_ok-push_back-in-Ok, in-Err-Code}

pub loop-field-preserved : goal.loop-field-preserved
loop-field-preserved c =
    elim c.match-eval.branch [
      | in-Ok+in_ok-push_back-in-Ok w ↦
          turn_given c.args.doc.now c.args.made.now c.loop-field.field-index c.field-item.result (omega arith) c.field-item.is c.loop-field.least c.match-eval.least c.loop-field.values.items c.match-eval.values.items _
          c.loop-field.invariant _ w.in-Ok.value (rw c.new.ensures at w.in-Ok.ensures) w.least-is (ap (λ v. v.items) w.values-is ∙ w.in_ok-push_back-in-Ok.ensures.items) refl
      | in-Err-Code w ↦
          turn_failed c.args.doc.now c.args.made.now c.loop-field.field-index c.field-item.result (omega arith) c.field-item.is c.loop-field.least c.match-eval.least c.loop-field.values.items c.match-eval.values.items _
          c.loop-field.invariant w.in-Err-Code.code w.in-Err-Code.field-0 w.in-Err-Code.field-0-is (rw c.new.ensures at w.in-Err-Code.ensures) (w.least-is ∙ ap Some w.lesser.ensures ∙ ap (λ (x : EvalCode). Some (noted c.loop-field.least x)) w.in-Err-Code.code-is) (ap (λ v. v.items) w.values-is)
    ]

pub returns : goal.returns
returns c = made_ends c.args.doc.now c.args.made.now c.loop-field.field-index c.loop-field.least (set_in c.loop-field.values.items) _ (omega (arith, c.loop-field-test.false)) c.in-None.is c.loop-field.invariant

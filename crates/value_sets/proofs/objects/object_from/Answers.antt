use Rattle.std.proofs.Common.{◌∙◌}
use Rattle.std.proofs.lemmas.Result.{err_from_is_err_and}
use Rattle.value_sets.specs.Seen.{fields_seen}
use Rattle.value_sets.proofs.FieldsPut.{object_failed, object_more}
use Rattle.value_sets.proofs.objects.object_from.Goals as goal

pub returns-in_err-name : goal.returns-in_err-name
returns-in_err-name c =
    let p = err_from_is_err_and c.from_residual.result c.from_residual.ensures.1 in
    rw (p.1, p.2) (object_failed (fields_seen c.loop-i.fields.entries) c.args.list.now c.loop-i.i _ c.in_err-name.field-0.0 c.value.ensures c.in_err-name.ensures c.loop-i.invariant)

pub loop-i-preserved : goal.loop-i-preserved
loop-i-preserved c = rw c.in_ok-put_field.ensures (object_more (fields_seen c.loop-i.fields.entries) c.args.list.now c.loop-i.i _ (_, _) c.value.ensures c.in_ok-name.ensures ∙ c.loop-i.invariant)

use Rattle.std.proofs.Common.{sym, ap, ◌∙◌}
use Rattle.bson_value.specs.ObjectRows.{merged}
use Rattle.value_sets.specs.Seen.{fields_seen}
use Rattle.value_sets.proofs.AtPlace.{pair_next}
use Rattle.value_sets.proofs.objects.put_fields.Goals as goal

pub loop-i-preserved : goal.loop-i-preserved
loop-i-preserved c =
    rw c.in_ok-put_field.ensures (sym (ap (merged (fields_seen c.loop-i.fields.entries)) (pair_next c.args.doc.now c.loop-i.i _ _ c.name.ensures c.value.ensures)) ∙ c.loop-i.invariant)

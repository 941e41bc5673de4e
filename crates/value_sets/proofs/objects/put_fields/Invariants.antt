use Rattle.std.proofs.Common.{◌≡◌, drop}
use Rattle.bson_value.specs.ObjectRows.{merged}
use Rattle.value_sets.specs.Seen.{fields_seen}
use Rattle.value_sets.proofs.objects.put_fields.Given as goal

abbrev pub invariant-loop-i : goal.invariant-loop-i
invariant-loop-i l = merged (fields_seen l.fields.entries) (drop l.i l.doc) ≡ merged (fields_seen l.fn.fields.entries) l.doc

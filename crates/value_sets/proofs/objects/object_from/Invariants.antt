use Rattle.std.proofs.Common.{◌≡◌, drop}
use Rattle.bson_value.specs.ObjectRows.{element_fields, object_of}
use Rattle.value_sets.specs.Seen.{fields_seen}
use Rattle.value_sets.proofs.FieldsPut.{object_after}
use Rattle.value_sets.proofs.objects.object_from.Given as goal

abbrev pub invariant-loop-i : goal.invariant-loop-i
invariant-loop-i l = object_after (fields_seen l.fields.entries) (element_fields (drop l.i l.list)) ≡ object_of (element_fields l.list)

use Rattle.std.proofs.Common.{◌≡◌, map, drop}
use Rattle.bson_value.specs.View.{founds}
use Rattle.bson_value.specs.Operands.{all, doc_in}
use Rattle.bson_value.specs.ObjectRows.{or_no_fields, merge_objects_row}
use Rattle.value_sets.specs.Seen.{fields_seen}
use Rattle.value_sets.proofs.FieldsPut.{merged_after}
use Rattle.value_sets.proofs.objects.merge_objects.Given as goal

abbrev pub invariant-loop-operand : goal.invariant-loop-operand
invariant-loop-operand l = merged_after (fields_seen l.fields.entries) (all (map (λ v. or_no_fields (doc_in v)) (founds (drop l.operand-index l.args)))) ≡ merge_objects_row (founds l.args)

use Rattle.std.proofs.Common.{◌≡◌, drop}
use Rattle.indexmap.specs.IndexSet.{insert_all}
use Rattle.bson_value.specs.SetRows.{same}
use Rattle.value_sets.proofs.sets.add_members.Given as goal

abbrev pub invariant-loop-i : goal.invariant-loop-i
invariant-loop-i l = insert_all same l.set.keys (drop l.i l.array) ≡ insert_all same l.fn.set.keys l.array

use Rattle.std.proofs.Common.{◌≡◌, ◌++◌, map, drop}
use Rattle.bson_value.specs.ObjectRows.{pair_object as the_pair}
use Rattle.value_sets.proofs.objects.array_from.Given as goal

abbrev pub invariant-loop-i : goal.invariant-loop-i
invariant-loop-i l = l.list ++ map the_pair (drop l.i l.doc) ≡ map the_pair l.doc

use Rattle.std.proofs.Common.{◌≡◌, take}
use Rattle.value_sets.specs.Seen.{fields_seen}
use Rattle.value_sets.proofs.objects.doc_of.Given as goal

abbrev pub invariant-loop-i : goal.invariant-loop-i
invariant-loop-i l = l.doc ≡ fields_seen (take l.i l.fields.entries)

use Rattle.std.proofs.Common.{◌≡◌, drop, []}
use Rattle.join_forms.specs.Reading.{parts_from}
use Rattle.join_forms.specs.Views.{parts_of}
use Rattle.join_forms.proofs.group.read_parts.Given as goal

abbrev pub invariant-loop-i : goal.invariant-loop-i
invariant-loop-i l = parts_from (parts_of l.parts) (drop l.i l.doc) ≡ parts_from [] l.doc

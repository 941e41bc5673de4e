use Rattle.std.proofs.Common.{◌≡◌, drop, []}
use Rattle.join_forms.specs.Reading.{output}
use Rattle.join_forms.specs.Views.{outputs_of}
use Rattle.stage_parts.specs.Each.{each, each_from}
use Rattle.join_forms.proofs.window.read_each_output.Given as goal

abbrev pub invariant-loop-i : goal.invariant-loop-i
invariant-loop-i l = each_from (output l.sorted) (outputs_of l.outputs) (drop l.i l.doc) ≡ each (output l.sorted) l.doc

use Rattle.std.proofs.Common.{◌≡◌, drop}
use Rattle.chunk_map.specs.Form.{same_names}
use Rattle.chunk_map.proofs.key_form.same_names.Given as goal

abbrev pub invariant-loop-i : goal.invariant-loop-i
invariant-loop-i l = same_names l.key l.doc ≡ same_names (drop l.i l.key) (drop l.i l.doc)

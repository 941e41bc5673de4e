use Rattle.std.proofs.Common.{◌≡◌, drop}
use Rattle.chunk_map.specs.Form.{all_of, path_in}
use Rattle.chunk_map.proofs.Listed.{with_front}
use Rattle.chunk_map.proofs.key_form.read_each.Given as goal

abbrev pub invariant-loop-i : goal.invariant-loop-i
invariant-loop-i l = all_of path_in l.key ≡ with_front l.paths.items (all_of path_in (drop l.i l.key))

use Rattle.std.proofs.Common.{◌≡◌, drop}
use Rattle.stage_parts.specs.Each.{each, each_from}
use Rattle.stage_parts.specs.Paths.{path_text}
use Rattle.stage_forms.proofs.unwind.each_path.Given as goal

abbrev pub invariant-loop-i : goal.invariant-loop-i
invariant-loop-i l = each_from path_text l.paths (drop l.i l.list) ≡ each path_text l.list

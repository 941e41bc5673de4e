use Rattle.std.proofs.Common.{◌≡◌, drop}
use Rattle.stage_parts.specs.Each.{each, each_from}
use Rattle.stage_parts.specs.Keys.{sort_key}
use Rattle.stage_parts.proofs.keys.read_all.Given as goal

abbrev pub invariant-loop-i : goal.invariant-loop-i
invariant-loop-i l = each_from sort_key l.keys (drop l.i l.doc) ≡ each sort_key l.doc

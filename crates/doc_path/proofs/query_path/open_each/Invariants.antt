use Rattle.std.proofs.Common.{◌≡◌, take}
use Rattle.std.specs.List.{flat_map}
use Rattle.bson_value.specs.Paths.{opened}
use Rattle.doc_path.proofs.query_path.open_each.Given as goal

abbrev pub invariant-loop-i : goal.invariant-loop-i
invariant-loop-i l = l.found ≡ flat_map opened (take l.i l.reached)

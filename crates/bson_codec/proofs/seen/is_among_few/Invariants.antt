use Rattle.std.proofs.Common.{◌≡◌, take, false}
use Rattle.std.specs.Prelude.{is_some}
use Rattle.bson_value.specs.Pairs.{find}
use Rattle.bson_codec.proofs.seen.is_among_few.Given as goal

abbrev pub invariant-loop-i : goal.invariant-loop-i
invariant-loop-i l = is_some (find l.name (take l.i l.doc)) ≡ false

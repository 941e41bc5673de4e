use Rattle.std.proofs.Common.{◌≡◌, ◌++◌, length}
use Rattle.doc_path.proofs.Keeping.{AreApart}
use Rattle.reshape_stage.proofs.Named.{named}
use Rattle.reshape_stage.proofs.fields.keep_named.Given as goal

abbrev pub invariant-loop-name : goal.invariant-loop-name
invariant-loop-name l = record { whole : named l.names l.fn.doc ≡ l.kept ++ named l.names l.fields; apart : AreApart (l.kept ++ l.fields) }

abbrev pub decreases-loop-name : goal.decreases-loop-name
decreases-loop-name l = length l.fields

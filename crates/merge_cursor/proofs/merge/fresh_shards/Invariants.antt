use Rattle.std.proofs.Common.{◌≡◌, []}
use Rattle.std.specs.Prelude.{replicate}
use Rattle.merge_cursor.specs.declared.shards.Progress.TheVariants.{Fresh}
use Rattle.merge_cursor.proofs.merge.fresh_shards.Given as goal

abbrev pub invariant-loop-i : goal.invariant-loop-i
invariant-loop-i l = l.all.items ≡ replicate l._i (record { waiting = []; progress = Fresh })

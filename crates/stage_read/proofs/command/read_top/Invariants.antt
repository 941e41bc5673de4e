use Rattle.std.proofs.Common.{◌≡◌, ◌+◌, drop, []}
use Rattle.bson_value.specs.Tree.{trees_of}
use Rattle.stage_read.specs.Commands.{top_from}
use Rattle.stage_read.proofs.command.read_top.Given as goal

-- what is left decides
abbrev pub invariant-loop-i : goal.invariant-loop-i
invariant-loop-i l = top_from l.pipeline (l.i + 1) (trees_of (drop l.i l.list)) ≡ top_from [] 1 (trees_of l.list)

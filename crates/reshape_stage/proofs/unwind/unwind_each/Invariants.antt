use Rattle.std.proofs.Common.{◌≡◌, ◌∷◌, ◌++◌, length}
use Rattle.bson_value.specs.Tree.{trees_of}
use Rattle.bson_value.specs.View.{tree_of}
use Rattle.stage_tree.specs.Rows.{unwound}
use Rattle.reshape_stage.proofs.unwind.unwind_each.Given as goal

abbrev pub invariant-loop-next : goal.invariant-loop-next
invariant-loop-next l =
    l.out ++ unwound l.unwind.path l.unwind.index l.fn.rest l.place (trees_of (tree_of l.item ∷ l.items)) ≡ l.fn.out ++ unwound l.unwind.path l.unwind.index l.fn.rest 0 (trees_of l.fn.items)

abbrev pub decreases-loop-next : goal.decreases-loop-next
decreases-loop-next l = length l.items

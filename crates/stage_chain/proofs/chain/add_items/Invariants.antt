use Rattle.std.proofs.Common.{◌≡◌, ◌++◌, drop}
use Rattle.stage_tree.specs.StageView.{items_in}
use Rattle.stage_chain.specs.Chain.{item_steps}
use Rattle.stage_chain.proofs.chain.add_items.Given as goal

abbrev pub invariant-loop-item : goal.invariant-loop-item
invariant-loop-item l = l.steps.items ++ item_steps (items_in (drop l.item-index l.items)) ≡ l.fn.steps.items ++ item_steps (items_in l.items)

use Rattle.std.proofs.Common.{◌≡◌, ◌+◌, ◌*◌, ◌≤◌, drop, map}
use Rattle.std.specs.Prelude.{max}
use Rattle.bson_value.specs.Tree.{pairs_of, trees_of}
use Rattle.bson_value.specs.View.{tree_of, trees_in}
use Rattle.bson_value.specs.Depth.{pairs_depth, trees_depth}
use Rattle.bson_value.proofs.depth.+depth.Given as goal

abbrev pub decreases-depth_of : goal.decreases-depth_of
decreases-depth_of l = 2 * l.cap

abbrev pub decreases-pairs_deep : goal.decreases-pairs_deep
decreases-pairs_deep l = 2 * l.cap + 1

abbrev pub decreases-members_deep : goal.decreases-members_deep
decreases-members_deep l = 2 * l.cap + 1

abbrev pub invariant-pairs_deep-loop-pair : goal.invariant-pairs_deep-loop-pair
invariant-pairs_deep-loop-pair l = (l.deepest ≤ l.cap) × (max l.deepest (pairs_depth (pairs_of (trees_in (drop l.pair-index l.pairs)))) ≡ pairs_depth (pairs_of (trees_in l.pairs)))

abbrev pub invariant-members_deep-loop-value : goal.invariant-members_deep-loop-value
invariant-members_deep-loop-value l = (l.deepest ≤ l.cap) × (max l.deepest (trees_depth (trees_of (map tree_of (drop l.value-index l.values)))) ≡ trees_depth (trees_of (map tree_of l.values)))

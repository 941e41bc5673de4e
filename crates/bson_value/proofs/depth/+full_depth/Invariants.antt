use Rattle.std.proofs.Common.{◌≡◌, ◌+◌, ◌*◌, drop, map}
use Rattle.std.specs.Prelude.{max, min}
use Rattle.bson_value.specs.Tree.{tree_size, pairs_of, pairs_size, trees_of, trees_size}
use Rattle.bson_value.specs.View.{tree_of, trees_in}
use Rattle.bson_value.specs.Depth.{pairs_depth, trees_depth}
use Rattle.bson_value.proofs.depth.+full_depth.Given as goal

abbrev pub decreases-full_depth : goal.decreases-full_depth
decreases-full_depth l = 2 * tree_size (tree_of l.value.now) + 1

abbrev pub decreases-pairs_full : goal.decreases-pairs_full
decreases-pairs_full l = 2 * pairs_size (pairs_of (trees_in l.pairs.now))

abbrev pub decreases-members_full : goal.decreases-members_full
decreases-members_full l = 2 * trees_size (trees_of (map tree_of l.values.now))

abbrev pub invariant-pairs_full-loop-pair : goal.invariant-pairs_full-loop-pair
invariant-pairs_full-loop-pair l = max l.deepest (min (pairs_depth (pairs_of (trees_in (drop l.pair-index l.pairs)))) 18446744073709551615) ≡ min (pairs_depth (pairs_of (trees_in l.pairs))) 18446744073709551615

abbrev pub invariant-members_full-loop-value : goal.invariant-members_full-loop-value
invariant-members_full-loop-value l = max l.deepest (min (trees_depth (trees_of (map tree_of (drop l.value-index l.values)))) 18446744073709551615) ≡ min (trees_depth (trees_of (map tree_of l.values))) 18446744073709551615

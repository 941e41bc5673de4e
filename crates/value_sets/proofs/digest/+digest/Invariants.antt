use Rattle.std.proofs.Common.{◌≡◌, ◌+◌, ◌*◌, drop}
use Rattle.bson_value.specs.Tree.{tree_size, pairs_of, pairs_size, trees_of, trees_size}
use Rattle.bson_value.specs.View.{tree_of}
use Rattle.value_sets.specs.Digest.{pairs_digest as the_pairs, trees_digest as the_trees}
use Rattle.value_sets.proofs.digest.+digest.Given as goal

abbrev pub decreases-digest : goal.decreases-digest
decreases-digest l = 2 * tree_size (tree_of l.value.now) + 1

abbrev pub decreases-pairs_digest : goal.decreases-pairs_digest
decreases-pairs_digest l = 2 * pairs_size (pairs_of l.doc.now)

abbrev pub decreases-trees_digest : goal.decreases-trees_digest
decreases-trees_digest l = 2 * trees_size (trees_of l.list.now)

abbrev pub invariant-pairs_digest-loop-i : goal.invariant-pairs_digest-loop-i
invariant-pairs_digest-loop-i l = the_pairs l.number (pairs_of (drop l.i l.doc)) ≡ the_pairs l.so_far (pairs_of l.doc)

abbrev pub invariant-trees_digest-loop-i : goal.invariant-trees_digest-loop-i
invariant-trees_digest-loop-i l = the_trees l.number (trees_of (drop l.i l.list)) ≡ the_trees l.so_far (trees_of l.list)

use Rattle.std.proofs.Common.{◌≡◌, ◌++◌, ◌+◌, ◌*◌, drop}
use Rattle.bson_value.specs.Tree.{tree_size, pairs_of, pairs_size, trees_of, trees_size}
use Rattle.bson_value.specs.View.{tree_of}
use Rattle.key_codec.specs.Keyed.{pairs_key, trees_key}
use Rattle.key_codec.specs.Seen.{seen_pairs, seen_trees}
use Rattle.key_codec.proofs.part.+key.Given as goal

abbrev pub decreases-put_body : goal.decreases-put_body
decreases-put_body l = 2 * tree_size (tree_of l.value.now) + 1

abbrev pub decreases-put_pairs : goal.decreases-put_pairs
decreases-put_pairs l = 2 * pairs_size (pairs_of l.doc.now)

abbrev pub decreases-put_members : goal.decreases-put_members
decreases-put_members l = 2 * trees_size (trees_of l.list.now)

abbrev pub invariant-put_pairs-loop-i : goal.invariant-put_pairs-loop-i
invariant-put_pairs-loop-i l = l.out.items ++ pairs_key (seen_pairs l.collation (pairs_of (drop l.i l.doc))) ≡ l.fn.out.items ++ pairs_key (seen_pairs l.collation (pairs_of l.doc))

abbrev pub invariant-put_members-loop-i : goal.invariant-put_members-loop-i
invariant-put_members-loop-i l = l.out.items ++ trees_key (seen_trees l.collation (trees_of (drop l.i l.list))) ≡ l.fn.out.items ++ trees_key (seen_trees l.collation (trees_of l.list))

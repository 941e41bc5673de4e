use Rattle.std.proofs.Common.{◌≡◌, ◌+◌, ◌*◌, drop, length}
use Rattle.bson_value.specs.Tree.{tree_size, pairs_of, pairs_size, trees_of, trees_size}
use Rattle.bson_value.specs.View.{tree_of}
use Rattle.bson_codec.specs.Spelling.{framed, pairs_bytes, trees_bytes}
use Rattle.bson_codec.specs.Writing.{less}
use Rattle.bson_codec.proofs.length.+measure.Given as goal

abbrev pub decreases-take_value : goal.decreases-take_value
decreases-take_value l = 3 * tree_size (tree_of l.value.now) + 1

abbrev pub decreases-take_element : goal.decreases-take_element
decreases-take_element l = 3 * tree_size (tree_of l.value.now) + 2

abbrev pub decreases-take_doc : goal.decreases-take_doc
decreases-take_doc l = 3 * pairs_size (pairs_of l.doc.now)

abbrev pub decreases-take_list : goal.decreases-take_list
decreases-take_list l = 3 * trees_size (trees_of l.list.now)

abbrev pub invariant-take_doc-loop-i : goal.invariant-take_doc-loop-i
invariant-take_doc-loop-i l = less l.left (length (pairs_bytes (pairs_of (drop l.i l.doc)))) ≡ less l.fn.room (length (framed (pairs_bytes (pairs_of l.doc))))

abbrev pub invariant-take_list-loop-i : goal.invariant-take_list-loop-i
invariant-take_list-loop-i l = less l.left (length (trees_bytes l.i (trees_of (drop l.i l.list)))) ≡ less l.fn.room (length (framed (trees_bytes 0 (trees_of l.list))))

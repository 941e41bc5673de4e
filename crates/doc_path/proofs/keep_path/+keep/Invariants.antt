use Rattle.std.proofs.Common.{◌≡◌, ◌≤◌, ◌+◌, ◌*◌, ◌++◌, length}
use Rattle.bson_value.specs.Tree.{pairs_of, trees_of, entries, members, tree_size, pairs_size, trees_size}
use Rattle.bson_value.specs.View.{tree_of}
use Rattle.doc_path.specs.Kept.{rests_in, kept_by, docs_kept_by}
use Rattle.doc_path.proofs.Keeping.{AreApart}
use Rattle.doc_path.proofs.keep_path.+keep.Given as goal

abbrev pub decreases-keep_fields : goal.decreases-keep_fields
decreases-keep_fields l = 4 * pairs_size (pairs_of l.doc)

abbrev pub decreases-keep_value : goal.decreases-keep_value
decreases-keep_value l = 4 * tree_size (tree_of l.value) + 3

abbrev pub decreases-keep_left : goal.decreases-keep_left
decreases-keep_left l = 4 * tree_size (tree_of l.value) + 2

abbrev pub decreases-keep_part : goal.decreases-keep_part
decreases-keep_part l = 4 * tree_size (tree_of l.value) + 1

abbrev pub decreases-keep_docs : goal.decreases-keep_docs
decreases-keep_docs l = 4 * trees_size (trees_of l.list)

abbrev pub decreases-keep_member : goal.decreases-keep_member
decreases-keep_member l = 4 * tree_size (tree_of l.item) + 1

abbrev pub invariant-keep_fields-loop-name : goal.invariant-keep_fields-loop-name
invariant-keep_fields-loop-name l = record {
  whole : entries (kept_by (rests_in l.groups) (pairs_of l.fn.doc)) ≡ l.kept ++ entries (kept_by (rests_in l.groups) (pairs_of l.fields));
  apart : AreApart (l.kept ++ l.fields);
  smaller : pairs_size (pairs_of l.fields) ≤ pairs_size (pairs_of l.fn.doc);
}

abbrev pub decreases-keep_fields-loop-name : goal.decreases-keep_fields-loop-name
decreases-keep_fields-loop-name l = length l.fields

abbrev pub invariant-keep_docs-loop-item : goal.invariant-keep_docs-loop-item
invariant-keep_docs-loop-item l = record {
  whole : members (docs_kept_by (rests_in l.groups) (trees_of l.fn.list)) ≡ l.kept ++ members (docs_kept_by (rests_in l.groups) (trees_of l.items));
  smaller : trees_size (trees_of l.items) ≤ trees_size (trees_of l.fn.list);
}

abbrev pub decreases-keep_docs-loop-item : goal.decreases-keep_docs-loop-item
decreases-keep_docs-loop-item l = length l.items

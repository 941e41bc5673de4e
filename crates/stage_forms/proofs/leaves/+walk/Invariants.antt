use Rattle.std.proofs.Common.{◌≡◌, ◌+◌, ◌*◌, drop}
use Rattle.bson_value.specs.Tree.{tree_size, pairs_of, pairs_size}
use Rattle.bson_value.specs.View.{tree_of}
use Rattle.stage_parts.specs.Each.{each_from}
use Rattle.stage_forms.specs.Leaves.{flat, leaf_reading}
use Rattle.stage_forms.specs.Views.{leaves_in}
use Rattle.stage_forms.proofs.leaves.+walk.Given as goal

abbrev pub decreases-read_fields : goal.decreases-read_fields
decreases-read_fields l = 3 * pairs_size (pairs_of l.doc.now)

abbrev pub decreases-read_nested : goal.decreases-read_nested
decreases-read_nested l = 3 * pairs_size (pairs_of l.doc.now) + 1

abbrev pub decreases-read_value : goal.decreases-read_value
decreases-read_value l = 3 * tree_size (tree_of l.value.now) + 2

abbrev pub invariant-read_fields-loop-i : goal.invariant-read_fields-loop-i
invariant-read_fields-loop-i l = each_from leaf_reading (leaves_in l.found.items) (flat l.front (pairs_of (drop l.i l.doc))) ≡ each_from leaf_reading (leaves_in l.fn.found.items) (flat l.front (pairs_of l.doc))

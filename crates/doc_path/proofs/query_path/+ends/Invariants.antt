use Rattle.std.proofs.Common.{◌≡◌, ◌+◌, ◌*◌, ◌++◌, length, take}
use Rattle.bson_value.specs.Paths.{ends, element_ends}
use Rattle.doc_path.proofs.query_path.+ends.Given as goal

abbrev pub decreases-ends_in : goal.decreases-ends_in
decreases-ends_in l = 4 * length l.steps.now

abbrev pub decreases-ends_in_field : goal.decreases-ends_in_field
decreases-ends_in_field l = 4 * length l.rest.now + 1

abbrev pub decreases-ends_in_named : goal.decreases-ends_in_named
decreases-ends_in_named l = 4 * length l.rest.now + 2

abbrev pub decreases-ends_in_placed : goal.decreases-ends_in_placed
decreases-ends_in_placed l = 4 * length l.rest.now + 2

abbrev pub decreases-ends_in_elements : goal.decreases-ends_in_elements
decreases-ends_in_elements l = 4 * length l.rest.now + 3

abbrev pub invariant-ends_in_elements-loop-i : goal.invariant-ends_in_elements-loop-i
invariant-ends_in_elements-loop-i l = l.found ≡ l.initial.found ++ element_ends (ends l.rest) l.step 0 (take l.i l.list)

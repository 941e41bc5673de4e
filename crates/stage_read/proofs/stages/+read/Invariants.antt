use Rattle.std.proofs.Common.{◌≡◌, ◌+◌, ◌*◌, drop, []}
use Rattle.bson_value.specs.Tree.{tree_size, pairs_of, pairs_size, trees_of, trees_size}
use Rattle.bson_value.specs.View.{tree_of}
use Rattle.stage_read.specs.Reading.{facets_from, stages_from}
use Rattle.stage_read.proofs.stages.+read.Given as goal

abbrev pub decreases-read_stage : goal.decreases-read_stage
decreases-read_stage l = 8 * tree_size (tree_of l.value.now) + 1

abbrev pub decreases-read_named : goal.decreases-read_named
decreases-read_named l = 8 * tree_size (tree_of l.value.now) + 7

abbrev pub decreases-read_facet : goal.decreases-read_facet
decreases-read_facet l = 8 * tree_size (tree_of l.value.now) + 6

abbrev pub decreases-read_facets : goal.decreases-read_facets
decreases-read_facets l = 8 * pairs_size (pairs_of l.doc.now) + 5

abbrev pub decreases-read_union : goal.decreases-read_union
decreases-read_union l = 8 * tree_size (tree_of l.value.now) + 6

abbrev pub decreases-read_pipeline_at : goal.decreases-read_pipeline_at
decreases-read_pipeline_at l = 8 * pairs_size (pairs_of l.doc.now) + 4

abbrev pub decreases-read_pipeline : goal.decreases-read_pipeline
decreases-read_pipeline l = 8 * tree_size (tree_of l.value.now) + 4

abbrev pub decreases-read_stages : goal.decreases-read_stages
decreases-read_stages l = 8 * trees_size (trees_of l.list.now) + 3

abbrev pub invariant-read_facets-loop-i : goal.invariant-read_facets-loop-i
invariant-read_facets-loop-i l = facets_from l.number l.facets (pairs_of (drop l.i l.doc)) ≡ facets_from l.number [] (pairs_of l.doc)

abbrev pub invariant-read_stages-loop-i : goal.invariant-read_stages-loop-i
invariant-read_stages-loop-i l = stages_from l.place l.number l.pipeline (trees_of (drop l.i l.list)) ≡ stages_from l.place l.number [] (trees_of l.list)

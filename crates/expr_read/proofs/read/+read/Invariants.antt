use Rattle.std.proofs.Common.{◌≡◌, ◌+◌, ◌*◌, drop, []}
use Rattle.bson_value.specs.Tree.{tree_size, pairs_of, pairs_size, trees_of, trees_size}
use Rattle.bson_value.specs.View.{tree_of}
use Rattle.expr_tree.specs.Forms.{is_field_name, is_variable_name}
use Rattle.expr_read.specs.Reading.{all_from, named_from, branches_from, fields_seen, items_seen}
use Rattle.expr_read.specs.Scopes.{names_in}
use Rattle.expr_read.proofs.read.+read.Given as goal

abbrev pub decreases-read_value : goal.decreases-read_value
decreases-read_value l = 16 * tree_size (tree_of l.value.now) + 8

abbrev pub decreases-read_row : goal.decreases-read_row
decreases-read_row l = 16 * tree_size (tree_of l.value.now) + 13

abbrev pub decreases-read_operands : goal.decreases-read_operands
decreases-read_operands l = 16 * tree_size (tree_of l.value.now) + 12

abbrev pub decreases-read_date : goal.decreases-read_date
decreases-read_date l = 16 * tree_size (tree_of l.value.now) + 12

abbrev pub decreases-read_condition : goal.decreases-read_condition
decreases-read_condition l = 16 * tree_size (tree_of l.value.now) + 12

abbrev pub decreases-read_over : goal.decreases-read_over
decreases-read_over l = 16 * tree_size (tree_of l.value.now) + 12

abbrev pub decreases-read_branch : goal.decreases-read_branch
decreases-read_branch l = 16 * tree_size (tree_of l.value.now) + 12

abbrev pub decreases-read_all_branches : goal.decreases-read_all_branches
decreases-read_all_branches l = 16 * tree_size (tree_of l.value.now) + 12

abbrev pub decreases-read_doc : goal.decreases-read_doc
decreases-read_doc l = 16 * pairs_size (pairs_of l.doc.now) + 7

abbrev pub decreases-read_fields : goal.decreases-read_fields
decreases-read_fields l = 16 * pairs_size (pairs_of l.doc.now) + 6

abbrev pub decreases-read_bindings : goal.decreases-read_bindings
decreases-read_bindings l = 16 * pairs_size (pairs_of l.doc.now) + 6

abbrev pub decreases-read_name : goal.decreases-read_name
decreases-read_name l = 16 * pairs_size (pairs_of l.doc.now) + 5

abbrev pub decreases-read_named_condition : goal.decreases-read_named_condition
decreases-read_named_condition l = 16 * pairs_size (pairs_of l.doc.now) + 6

abbrev pub decreases-read_shape : goal.decreases-read_shape
decreases-read_shape l = 16 * pairs_size (pairs_of l.doc.now) + 11

abbrev pub decreases-read_branch_in : goal.decreases-read_branch_in
decreases-read_branch_in l = 16 * pairs_size (pairs_of l.doc.now) + 6

abbrev pub decreases-read_branches_at : goal.decreases-read_branches_at
decreases-read_branches_at l = 16 * pairs_size (pairs_of l.doc.now) + 9

abbrev pub decreases-read_default : goal.decreases-read_default
decreases-read_default l = 16 * pairs_size (pairs_of l.doc.now) + 9

abbrev pub decreases-read_cases : goal.decreases-read_cases
decreases-read_cases l = 16 * pairs_size (pairs_of l.doc.now) + 10

abbrev pub decreases-read_variables : goal.decreases-read_variables
decreases-read_variables l = 16 * pairs_size (pairs_of l.doc.now) + 9

abbrev pub decreases-read_let : goal.decreases-read_let
decreases-read_let l = 16 * pairs_size (pairs_of l.doc.now) + 10

abbrev pub decreases-read_mapped : goal.decreases-read_mapped
decreases-read_mapped l = 16 * pairs_size (pairs_of l.doc.now) + 10

abbrev pub decreases-read_filtered : goal.decreases-read_filtered
decreases-read_filtered l = 16 * pairs_size (pairs_of l.doc.now) + 10

abbrev pub decreases-read_reduced : goal.decreases-read_reduced
decreases-read_reduced l = 16 * pairs_size (pairs_of l.doc.now) + 10

abbrev pub decreases-read_moved : goal.decreases-read_moved
decreases-read_moved l = 16 * pairs_size (pairs_of l.doc.now) + 10

abbrev pub decreases-read_between : goal.decreases-read_between
decreases-read_between l = 16 * pairs_size (pairs_of l.doc.now) + 10

abbrev pub decreases-read_cut : goal.decreases-read_cut
decreases-read_cut l = 16 * pairs_size (pairs_of l.doc.now) + 10

abbrev pub decreases-read_items : goal.decreases-read_items
decreases-read_items l = 16 * trees_size (trees_of l.list.now) + 6

abbrev pub decreases-read_place : goal.decreases-read_place
decreases-read_place l = 16 * trees_size (trees_of l.list.now) + 5

abbrev pub decreases-read_listed_condition : goal.decreases-read_listed_condition
decreases-read_listed_condition l = 16 * trees_size (trees_of l.list.now) + 6

abbrev pub decreases-read_branches : goal.decreases-read_branches
decreases-read_branches l = 16 * trees_size (trees_of l.list.now) + 6

abbrev pub invariant-read_items-loop-i : goal.invariant-read_items-loop-i
invariant-read_items-loop-i l = all_from l.exprs (items_seen (drop l.i l.list)) (names_in l.scope) ≡ all_from [] (items_seen l.list) (names_in l.scope)

abbrev pub invariant-read_fields-loop-i : goal.invariant-read_fields-loop-i
invariant-read_fields-loop-i l = named_from is_field_name l.fields (fields_seen (drop l.i l.doc)) (names_in l.scope) ≡ named_from is_field_name ([], []) (fields_seen l.doc) (names_in l.scope)

abbrev pub invariant-read_bindings-loop-i : goal.invariant-read_bindings-loop-i
invariant-read_bindings-loop-i l = named_from is_variable_name l.bindings (fields_seen (drop l.i l.doc)) (names_in l.scope) ≡ named_from is_variable_name ([], []) (fields_seen l.doc) (names_in l.scope)

abbrev pub invariant-read_branches-loop-i : goal.invariant-read_branches-loop-i
invariant-read_branches-loop-i l = branches_from l.branches (items_seen (drop l.i l.list)) (names_in l.scope) ≡ branches_from [] (items_seen l.list) (names_in l.scope)

use Rattle.std.proofs.Common.{◌+◌, arith, map}
use Rattle.bson_value.specs.Tree.{tree_size}
use Rattle.bson_value.specs.View.{tree_of, trees_in}
use Rattle.bson_value.proofs.Depths.{depth_doc, depth_list}
use Rattle.bson_value.proofs.Slices.{pair_fits, member_fits, pairs_fit, members_fit}
use Rattle.bson_value.proofs.depth.+full_depth.Goals as goal

pub full_depth-pairs_full-requires : goal.full_depth-pairs_full-requires
full_depth-pairs_full-requires t c = (omega (arith, c.decreases, pairs_fit (tree_of c.args.value.now) (trees_in c.pairs_in_value.result.now) c.pairs_in_value.ensures), tt)

pub full_depth-members_full-requires : goal.full_depth-members_full-requires
full_depth-members_full-requires t c = (omega (arith, c.decreases, members_fit (tree_of c.args.value.now) (map tree_of c.members_of.result.now) c.members_of.ensures), tt)

pub pairs_full-full_depth-requires : goal.pairs_full-full_depth-requires
pairs_full-full_depth-requires t c = (omega (arith, c.decreases, pair_fits c.args.pairs.now c.loop-pair.pair-index c.pair-item.result (omega arith) c.pair-item.is), tt)

pub members_full-full_depth-requires : goal.members_full-full_depth-requires
members_full-full_depth-requires t c = (omega (arith, c.decreases, member_fits c.args.values.now c.loop-value.value-index c.value-item.result (omega arith) c.value-item.is), tt)

pub full_depth-returns-in-Doc : goal.full_depth-returns-in-Doc
full_depth-returns-in-Doc t c =
    let e = depth_doc c.args.value.now c.in-Doc.field-0 (trees_in c.pairs_in_value.result.now) c.in-Doc.is c.pairs_in_value.ensures in
    omega (arith, e, c.pairs_full.ensures, c.saturating_add.ensures)

pub full_depth-returns-in-List : goal.full_depth-returns-in-List
full_depth-returns-in-List t c =
    let e = depth_list c.args.value.now c.in-List.field-0 (map tree_of c.members_of.result.now) c.in-List.is c.members_of.ensures in
    omega (arith, e, c.members_full.ensures, c.saturating_add-in-List.ensures)

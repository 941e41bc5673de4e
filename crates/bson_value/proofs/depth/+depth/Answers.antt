use Rattle.std.proofs.Common.{arith, map}
use Rattle.bson_value.specs.View.{tree_of, trees_in}
use Rattle.bson_value.proofs.Depths.{depth_doc, depth_list}
use Rattle.bson_value.proofs.depth.+depth.Goals as goal

pub depth_of-returns-in_err-deepest-in-Doc : goal.depth_of-returns-in_err-deepest-in-Doc
depth_of-returns-in_err-deepest-in-Doc t c =
    let e = depth_doc c.args.value.now c.in-Doc.field-0 (trees_in c.pairs_in_value.result.now) c.in-Doc.is c.pairs_in_value.ensures in
    rw c.from_residual-in_err-deepest-in-Doc.ensures (omega (arith, e, c.in_err-deepest-in-Doc.ensures))

pub depth_of-returns-in_ok-deepest-in-Doc : goal.depth_of-returns-in_ok-deepest-in-Doc
depth_of-returns-in_ok-deepest-in-Doc t c =
    let e = depth_doc c.args.value.now c.in-Doc.field-0 (trees_in c.pairs_in_value.result.now) c.in-Doc.is c.pairs_in_value.ensures in
    (omega (arith, e, c.in_ok-deepest-in-Doc.ensures), omega (arith, e, c.in_ok-deepest-in-Doc.ensures))

pub depth_of-returns-in_err-deepest-in-List : goal.depth_of-returns-in_err-deepest-in-List
depth_of-returns-in_err-deepest-in-List t c =
    let e = depth_list c.args.value.now c.in-List.field-0 (map tree_of c.members_of.result.now) c.in-List.is c.members_of.ensures in
    rw c.from_residual-in_err-deepest-in-List.ensures (omega (arith, e, c.in_err-deepest-in-List.ensures))

pub depth_of-returns-in_ok-deepest-in-List : goal.depth_of-returns-in_ok-deepest-in-List
depth_of-returns-in_ok-deepest-in-List t c =
    let e = depth_list c.args.value.now c.in-List.field-0 (map tree_of c.members_of.result.now) c.in-List.is c.members_of.ensures in
    (omega (arith, e, c.in_ok-deepest-in-List.ensures), omega (arith, e, c.in_ok-deepest-in-List.ensures))

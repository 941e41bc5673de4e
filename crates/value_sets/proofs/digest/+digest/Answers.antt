use Rattle.std.proofs.Common.{arith}
use Rattle.value_sets.proofs.AtPlace.{pairs_more, trees_more, pair_fits, tree_fits}
use Rattle.value_sets.proofs.digest.+digest.Goals as goal

pub pairs_digest-digest-requires : goal.pairs_digest-digest-requires
pairs_digest-digest-requires t c = (omega (arith, c.decreases, pair_fits c.args.doc.now c.loop-i.i _ c.value.ensures), tt)

pub trees_digest-digest-requires : goal.trees_digest-digest-requires
trees_digest-digest-requires t c = (omega (arith, c.decreases, tree_fits c.args.list.now c.loop-i.i _ c.value.ensures), tt)

pub pairs_digest-loop-i-preserved : goal.pairs_digest-loop-i-preserved
pairs_digest-loop-i-preserved t c =
    rw (c.mixed-number.ensures, c.mixed_bytes.ensures, c.digest.ensures, pairs_more c.loop-i.number c.args.doc.now c.loop-i.i _ _ c.name.ensures c.value.ensures) c.loop-i.invariant

pub trees_digest-loop-i-preserved : goal.trees_digest-loop-i-preserved
trees_digest-loop-i-preserved t c = rw (c.mixed-number.ensures, c.digest.ensures, trees_more c.loop-i.number c.args.list.now c.loop-i.i _ c.value.ensures) c.loop-i.invariant

use Rattle.std.proofs.Common.{◌≡◌, ◌+◌, ◌<◌, ◌∙◌, length, length-set, sym, arith}
use Rattle.chunk_map.specs.KeyParts.{key_parts}
use Rattle.chunk_map.proofs.Parts.{part_met, part_step, parts_done, parts_more, parts_length, same_part}
use Rattle.chunk_map.proofs.key.key_of.Goals as goal

pub returns-in-Err-clause-key : goal.returns-in-Err-clause-key
returns-in-Err-clause-key c =
    sym (c.loop-i.invariant.key ∙ part_met (c.loop-i.i + 1) c.loop-i.i (key_parts c.loop-i.i c.loop-i.parts) c.args.paths.now c.index-paths-i.result _ c.loop-i-test.true c.index-paths-i.is c.in-Err.ensures)

pub loop-i-preserved : goal.loop-i-preserved
loop-i-preserved c =
    let lt : c.loop-i.i < length c.loop-i.parts = omega (arith, c.loop-i.invariant.size) in
    record {
      key = rw (parts_more c.loop-i.i c.loop-i.parts c.in-Ok.value lt)
          (c.loop-i.invariant.key ∙ part_step (c.loop-i.i + 1) c.loop-i.i (key_parts c.loop-i.i c.loop-i.parts) c.args.paths.now c.index-paths-i.result _ c.loop-i-test.true c.index-paths-i.is c.in-Ok.ensures.0
          ∙ same_part _ _ _ _ (sym c.in-Ok.ensures.1));
      size = length-set c.loop-i.parts c.loop-i.i c.in-Ok.value ∙ c.loop-i.invariant.size;
    }

pub returns-clause-key : goal.returns-clause-key
returns-clause-key c =
    let at : length c.args.paths.now ≡ c.loop-i.i = omega arith in
    rw at (sym (c.loop-i.invariant.key ∙ parts_done (c.loop-i.i + 1) c.loop-i.i (key_parts c.loop-i.i c.loop-i.parts) c.args.paths.now _ c.loop-i-test.false))

pub returns-clause-parts : goal.returns-clause-parts
returns-clause-parts c =
    parts_length c.args.paths.now c.loop-i.parts (omega (arith, c.loop-i.invariant.size, c.requires))

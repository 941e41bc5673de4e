use Rattle.std.proofs.Common.{ℕ, ◌+◌, List, drop, sym, ap, ◌∙◌, arith}
use Rattle.stage_tree.specs.Stage.{StageNode, stages_of}
use Rattle.pipeline_limits.specs.Limits.{first_passing}
use Rattle.pipeline_limits.specs.Walk.{walk_stage}
use Rattle.pipeline_limits.proofs.Walked.{goes-on, stops, from-place}
use Rattle.pipeline_limits.proofs.limits.first_too_deep.Goals as goal

pub loop-placed-preserved : goal.loop-placed-preserved
loop-placed-preserved c =
    let items = c.stages-placed-items.result.now in
    let s = c.placed-item.result in
    let i = c.loop-placed.placed-index in
    record {
      place = omega (arith, c.loop-placed.invariant.place);
      first = sym (goes-on s.0 s.1 (stages_of (drop (i + 1) items)) c.loop-placed.place c.loop-placed.depth c.in-Some.behind (ap (λ (x : StageNode). walk_stage x c.loop-placed.depth) (sym c.stage.ensures) ∙ sym c.through_stage.ensures ∙ c.in-Some.is))
          ∙ sym (from-place items i s c.loop-placed.place c.loop-placed.depth c.loop-placed-test.true c.placed-item.is)
          ∙ c.loop-placed.invariant.first;
    }

pub returns-in-None : goal.returns-in-None
returns-in-None c =
    let items = c.stages-placed-items.result.now in
    let s = c.placed-item.result in
    let i = c.loop-placed.placed-index in
    sym (stops s.0 s.1 (stages_of (drop (i + 1) items)) c.loop-placed.place c.loop-placed.depth (ap (λ (x : StageNode). walk_stage x c.loop-placed.depth) (sym c.stage.ensures) ∙ sym c.through_stage.ensures ∙ c.in-None.is))
    ∙ sym (from-place items i s c.loop-placed.place c.loop-placed.depth c.loop-placed-test.true c.placed-item.is)
    ∙ c.loop-placed.invariant.first
    ∙ ap (λ (l : List (StageNode × List ℕ)). first_passing 1 100 (stages_of l)) c.stages-placed-items.ensures

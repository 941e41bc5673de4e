use Rattle.stage_chain.proofs.Feeding.{gone_step}
use Rattle.stage_chain.proofs.step.Step.feed.Goals as goal

pub loop-doc-preserved : goal.loop-doc-preserved
loop-doc-preserved c = gone_step c.loop-doc.self c.take.new.self c.loop-doc.spare c.take.new.out c.in-Some.doc c.loop-doc.docs c.take_first.new.self _ c.in-Some.ensures c.in_ok-take.ensures c.loop-doc.invariant

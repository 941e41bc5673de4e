use Rattle.std.proofs.Common.{◌∙◌, add-one}
use Rattle.aggregate_command.proofs.Added.{added_next}
use Rattle.aggregate_command.proofs.results.Results.add_all.Goals as goal

pub loop-i-preserved : goal.loop-i-preserved
loop-i-preserved c =
    rw add-one (added_next c.loop-i.self c.add.new.self c.args.docs.now c.loop-i.i c.doc.result.now c.doc.ensures c.in_ok-add.ensures ∙ c.loop-i.invariant)

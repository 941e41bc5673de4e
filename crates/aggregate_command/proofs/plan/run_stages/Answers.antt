use Rattle.std.specs.Option.{option_map}
use Rattle.aggregate_command.proofs.Over.{ran_stages}
use Rattle.aggregate_command.proofs.plan.run_stages.Goals as goal

pub returns-clause-bytes : goal.returns-clause-bytes
returns-clause-bytes g c =
    ran_stages (g.F.Outside.world c.args.files.now).held (option_map (λ d. d.now) c.args.collection) c.args.pipeline c.len-stages.result c.in_ok-run.run' c.run_named.new.run c.end.result
    c.len-stages.ensures c.in_ok-run.ensures.run c.in_ok-run_named.ensures.ran c.end.ensures.bytes

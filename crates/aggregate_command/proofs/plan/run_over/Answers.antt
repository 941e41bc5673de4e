use Rattle.std.proofs.Common.{◌∙◌, ap}
use Rattle.std.specs.Option.{option_map}
use Rattle.chunk_map.specs.Owned.{collection_named}
use Rattle.stage_read.specs.Answers.{command_of}
use Rattle.aggregate_command.proofs.Over.{over_ran}
use Rattle.aggregate_command.proofs.plan.run_over.Goals as goal

pub returns-clause-bytes : goal.returns-clause-bytes
returns-clause-bytes g c =
    over_ran c.chain_is_written.ensures (g.F.Outside.world c.args.files.now).held (g.F.Outside.world c.survey_named.new.files).held c.args.cluster.now (command_of c.args.command) c.args.runs
    (option_map (λ d. d.now) c.collection-collection.result) c.run_stages.result
    c.survey_named.ensures.held (c.collection-collection.ensures ∙ ap (λ n. collection_named n c.args.cluster.now) c.bytes.ensures.same) c.in_ok-survey_named.ensures.survey c.if-not-runs.false c.requires.built
    c.run_stages.ensures.bytes

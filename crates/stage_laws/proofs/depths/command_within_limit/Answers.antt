use Rattle.stage_laws.proofs.StageDepths.{passed_within}
use Rattle.stage_laws.proofs.WrittenPaths.{command_steps}
use Rattle.stage_laws.proofs.depths.command_within_limit.Goals as goal

pub returns-clause-paths : goal.returns-clause-paths
returns-clause-paths c = command_steps

pub returns-clause-documents : goal.returns-clause-documents
returns-clause-documents c fields name ss w ds es spells told collections nested given =
    passed_within ss w ds es told (command_steps fields name ss spells) collections nested spells.within given

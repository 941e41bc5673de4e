use Rattle.stage_laws.proofs.StageDepths.{stage_within, stages_within, passed_within}
use Rattle.stage_laws.proofs.depths.documents_within_bound.Goals as goal

pub returns-clause-stage : goal.returns-clause-stage
returns-clause-stage c = stage_within

pub returns-clause-pipeline : goal.returns-clause-pipeline
returns-clause-pipeline c = stages_within

pub returns-clause-passed : goal.returns-clause-passed
returns-clause-passed c = passed_within

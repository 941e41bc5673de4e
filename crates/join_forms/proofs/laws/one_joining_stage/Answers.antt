use Rattle.std.proofs.Common.{◌∙◌, sym}
use Rattle.join_forms.proofs.Stages.{only}
use Rattle.join_forms.proofs.laws.one_joining_stage.Goals as goal
use Rattle.stage_parts.proofs.Options.{some_same}

pub returns : goal.returns
returns c name t r s h k = some_same r s (sym (only r name t h) ∙ only s name t k)

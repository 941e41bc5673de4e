use Rattle.std.proofs.Common.{◌∙◌, ap}
use Rattle.std.specs.Prelude.{List, Ok}
use Rattle.bson_value.specs.Tree.{Tree}
use Rattle.stage_laws.proofs.Keys.{keyed, is_keyed, arrayed, is_arrayed}
use Rattle.stage_laws.proofs.surveys.key_is.Goals as goal

pub returns-clause-values : goal.returns-clause-values
returns-clause-values c paths d key = (is_keyed paths d key, λ h. keyed paths d h.0 ∙ ap (λ (ts : List Tree). Ok ts) h.1)

pub returns-clause-array : goal.returns-clause-array
returns-clause-array c paths d part = (is_arrayed paths d part, arrayed paths d part)

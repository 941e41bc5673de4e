-- How a stage of a chain is told from others, by a proof.
use Rattle.std.specs.Prelude.{◌≡◌, ℕ, List, Option, refl}
use Rattle.std.specs.Coded.{Coded, code_by, coded_ℕ, coded_list, coded_option, coded×}
use Rattle.bson_value.specs.declared.eval_code.EvalCode.{EvalCode}
use Rattle.bson_value.specs.contracts.eval_code.EvalCode as code
use Rattle.reshape_stage.specs.Work.{Work}
use Rattle.reshape_stage.specs.WorkCode.{work_code}
use Rattle.stage_chain.specs.Chain.{Step}

abbrev Parts : Type 0
Parts = Work × (ℕ × Option EvalCode)

abbrev parts : Step → Parts
parts s = (s.work, (s.origin, s.failed))

abbrev from : Parts → Step
from p = record { work = p.0; origin = p.1.0; failed = p.1.1 }

pub back : (s : Step) → from (parts s) ≡ s
back s = refl

abbrev pub step_code : Coded Step
step_code = code_by Parts (coded× work_code (coded× coded_ℕ (coded_option code.the_row.coded))) parts from back

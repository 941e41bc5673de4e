use Rattle.std.proofs.Common.{Err, ◌∙◌, ap}
use Rattle.value_laws.proofs.FaultLevels.{fault_stands, stands_fault}
use Rattle.value_laws.proofs.reading.leftmost_fault.Goals as goal

pub returns : goal.returns
returns c start bytes b fits = (stands_fault start bytes b fits, λ h. fault_stands start bytes h.0 h.2 ∙ ap Err h.1)

use Rattle.std.proofs.Common.{◌-◌, ◌∙◌, length, drop, sym, inl, inr}
use Rattle.bson_codec.proofs.Decoding.{read_takes, read_again}
use Rattle.value_laws.proofs.FaultFields.{err_is, ok_not_err}
use Rattle.value_laws.proofs.FaultLevels.{fault_stands, fault_or_read}
use Rattle.value_laws.proofs.reading.fault_or_document.Goals as goal

pub returns-clause-either : goal.returns-clause-either
returns-clause-either c start bytes fits le =
    elim (fault_or_read start bytes fits) [
      | inl w ↦ inr w
      | inr r ↦ inl (r.0.0, length bytes - length r.0.1, read_takes start bytes r.0 fits le r.1)
    ]

pub returns-clause-never_both : goal.returns-clause-never_both
returns-clause-never_both c start bytes d end f h w = ok_not_err (d, drop end bytes) f.bad (sym (read_again start bytes d end h) ∙ fault_stands start bytes f w)

pub returns-clause-only_one : goal.returns-clause-only_one
returns-clause-only_one c start bytes f g h k = err_is f.bad g.bad (sym (fault_stands start bytes f h) ∙ fault_stands start bytes g k)

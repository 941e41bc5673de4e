use Rattle.std.proofs.Common.{ap}
use Rattle.std.specs.Prelude.{Err}
use Rattle.std.proofs.lemmas.List.{take_rest}
use Rattle.bson_codec.specs.declared.error.DecodeError.{DecodeError}
use Rattle.orphan_filter.proofs.Steps.{same_error, front_of_some}
use Rattle.orphan_filter.proofs.record_reader.RecordReader.decode_next.Goals as goal

pub returns-in-Err-clause-bad : goal.returns-in-Err-clause-bad
returns-in-Err-clause-bad c b e file h =
    c.in-Err.ensures.faults b (ap (λ (d : DecodeError). Err d) (same_error c.in-Err.e _ e)) file (rw (c.deref.ensures.value, take_rest) h)

pub returns-clause-short : goal.returns-clause-short
returns-clause-short c = (c.in-Ok.ensures.found _ (front_of_some c.args.self.now.place _)).short

use Rattle.std.proofs.Common.{ap, arith}
use Rattle.std.specs.Prelude.{Err}
use Rattle.orphan_filter.specs.declared.errors.RecordError.{RecordError}
use Rattle.orphan_filter.specs.Reader.{reading_of}
use Rattle.orphan_filter.proofs.Arrays.{survey_more, survey_array, survey_ends, survey_bad}
use Rattle.orphan_filter.proofs.file_survey.read_one.Goals as goal

pub returns-in-Ok-None-clause-verdict : goal.returns-in-Ok-None-clause-verdict
returns-in-Ok-None-clause-verdict g c =
    let next = rw c.in-Ok-None.field-0-is at c.in-Ok-None.ensures.next in
    survey_ends c.args.collection.now.key_paths (reading_of c.args.reader.now) (reading_of c.next_record.new.self) _ _ c.in-Ok-None.ensures.alone.held c.requires next

pub returns-in-Err-Bad-clause-verdict : goal.returns-in-Err-Bad-clause-verdict
returns-in-Err-Bad-clause-verdict g c =
    survey_bad c.args.collection.now.key_paths (reading_of c.args.reader.now) (reading_of c.args.reader.now) _ _ c.in-Err-Bad.bad (omega (arith, c.given.ensures.value, c.in-Err-Bad.ensures.err)) c.requires (c.in-Err-Bad.ensures.bad c.in-Err-Bad.bad (ap (λ (e : RecordError). Err e) c.in-Err-Bad.field-0-is))

pub returns-in-None-clause-verdict : goal.returns-in-None-clause-verdict
returns-in-None-clause-verdict g c =
    let next = rw c.in-Ok-Some.field-0-is at c.in-Ok-Some.ensures.next in
    let given = rw c.in-Ok-Some.field-0-is at c.in-Ok-Some.ensures.given in
    survey_more c.args.collection.now.key_paths (reading_of c.args.reader.now) (reading_of c.next_record.new.self) _ _ c.in-Ok-Some.doc c.in-Ok-Some.ensures.alone.held c.in-None.ensures given c.requires next

pub returns-clause-verdict : goal.returns-clause-verdict
returns-clause-verdict g c =
    let next = rw c.in-Ok-Some.field-0-is at c.in-Ok-Some.ensures.next in
    let given = rw c.in-Ok-Some.field-0-is at c.in-Ok-Some.ensures.given in
    survey_array c.args.collection.now.key_paths (reading_of c.args.reader.now) (reading_of c.next_record.new.self) _ _ c.in-Ok-Some.doc c.given-in-Some.result c.place-start.result c.in-Some.part c.in-Ok-Some.ensures.alone.held c.given-in-Some.ensures.value c.place-start.ensures c.in-Some.ensures given c.requires next

use Rattle.std.proofs.Common.{ap}
use Rattle.std.specs.Prelude.{Err}
use Rattle.orphan_filter.specs.declared.errors.RecordError.{RecordError}
use Rattle.orphan_filter.specs.Reader.{reading_of}
use Rattle.orphan_filter.proofs.Given.{next_owned, no_bad_record}
use Rattle.orphan_filter.proofs.owned_reader.next_of.Goals as goal

pub returns-in-Ok-clause-next : goal.returns-in-Ok-clause-next
returns-in-Ok-clause-next g c =
    next_owned _ _ c.args.collection.now c.args.place c.args.given (reading_of c.args.records.now) (reading_of c.next_record.new.self) c.in-Ok.doc c.in-Ok.ensures.alone.held c.in-Ok.ensures.same.0 c.in-Ok.ensures.given c.requires.good c.requires.follows c.in-Ok.ensures.next

pub returns-in-Err-Bad-clause-damage : goal.returns-in-Err-Bad-clause-damage
returns-in-Err-Bad-clause-damage g c _ =
    no_bad_record _ c.args.collection.now c.args.place c.args.given (reading_of c.args.records.now) c.in-Err-Bad.field-0-0 c.requires.good c.requires.follows
    (c.in-Err-Bad.ensures.bad c.in-Err-Bad.field-0-0 (ap (λ (e : RecordError). Err e) c.in-Err-Bad.field-0-is))

use Rattle.orphan_filter.specs.Reader.{reading_of}
use Rattle.orphan_filter.proofs.Steps.{step_next}
use Rattle.orphan_filter.proofs.record_reader.RecordReader.next_record.Goals as goal

pub returns-in-Ok-decode_next-clause-next : goal.returns-in-Ok-decode_next-clause-next
returns-in-Ok-decode_next-clause-next g c =
    let d = c.in-Ok-decode_next.ensures in
    let r = c.in-Ok.ensures in
    step_next _ _ (reading_of c.args.self.now) (reading_of c.read_ahead.new.self) (reading_of c.decode_next.new.self) c.in-Ok-decode_next.doc r.alone.held
    r.keeps.id r.keeps.place r.keeps.given d.same.1 c.requires r.along r.within r.enough d.found d.window d.within d.moves d.given

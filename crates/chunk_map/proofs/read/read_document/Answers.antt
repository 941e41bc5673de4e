use Rattle.std.proofs.Common.{refl, ap}
use Rattle.std.specs.Prelude.{Err}
use Rattle.bson_codec.specs.declared.error.DecodeError.{DecodeError}
use Rattle.bson_codec.specs.Records.{bytes_fault, trailing}
use Rattle.bson_codec.proofs.Joined.{none_spelled}
use Rattle.chunk_map.proofs.read.read_document.Goals as goal

pub returns-then-end-bytes : goal.returns-then-end-bytes
returns-then-end-bytes c =
    let e = (c.document_is.ensures.bad (trailing c.in-Ok.end)).1 (record { document = c.in-Ok.doc; spelled = c.in-Ok.ensures.found; more = c.if-end-bytes.true }) in
    rw (c.refuse.ensures, e) refl

pub returns-in-Err-Bad : goal.returns-in-Err-Bad
returns-in-Err-Bad c =
    let f = c.in-Err-Bad.ensures.faults c.in-Err-Bad.bad (ap (λ (d : DecodeError). Err d) c.in-Err-Bad.field-0-is) in
    let e = (c.document_is.ensures.bad (bytes_fault c.in-Err-Bad.bad)).1 (none_spelled 0 c.args.bytes.now c.in-Err-Bad.bad f, f) in
    rw (c.refuse-in-Err-Bad.ensures, e) refl

use Rattle.std.proofs.Common.{Err, ap}
use Rattle.aggregate_command.proofs.OneDocument.{trailing_refused, bytes_refused}
use Rattle.aggregate_command.proofs.inputs.document_in.Goals as goal

pub returns-then-end-bytes-clause-document : goal.returns-then-end-bytes-clause-document
returns-then-end-bytes-clause-document c =
    rw c.bad_command.ensures (trailing_refused c.args.bytes.now c.in-Ok.doc c.in-Ok.end c.document_is.ensures.bad c.in-Ok.ensures.found c.if-end-bytes.true)

pub returns-in-Err-Bad-clause-document : goal.returns-in-Err-Bad-clause-document
returns-in-Err-Bad-clause-document c =
    rw c.bad_command-in-Err-Bad.ensures
    (bytes_refused c.args.bytes.now c.in-Err-Bad.bad c.document_is.ensures.bad
    (c.in-Err-Bad.ensures.none c.in-Err-Bad.bad (ap Err c.in-Err-Bad.field-0-is))
    (c.in-Err-Bad.ensures.faults c.in-Err-Bad.bad (ap Err c.in-Err-Bad.field-0-is)))

use Rattle.bson_codec.proofs.Utf8.{utf8_ok, utf8_bad}
use Rattle.bson_codec.proofs.names.name_of.Goals as goal

pub returns-in-Ok : goal.returns-in-Ok
returns-in-Ok c = utf8_ok c.args.at c.args.bytes.now c.in-Ok.name c.in-Ok.ensures.0.text c.in-Ok.ensures.1

pub returns-in-Err-NotText : goal.returns-in-Err-NotText
returns-in-Err-NotText c =
    let no_name = rw c.in-Err-NotText.field-0-is at c.in-Err-NotText.ensures in
    rw c.bad.ensures (utf8_bad c.args.at c.args.bytes.now (λ h. no_name (record { text = h; no_zero = c.requires })))

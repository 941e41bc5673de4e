-- When a file is no document.
use Rattle.std.proofs.Common.{◌≡◌, ◌↔◌, ◌<◌, ℕ, List, length, Err, ap}
use Rattle.bson_value.specs.declared.bad.BadBson.{BadBson}
use Rattle.bson_codec.specs.Spelling.{IsSpelledAt}
use Rattle.bson_codec.specs.Reading.{read_at}
use Rattle.bson_codec.specs.Records.{Document, FileFault, bytes_fault, trailing, document_of, IsFileFault}
use Rattle.stage_tree.specs.declared.command.CommandWhy.TheVariants as W
use Rattle.aggregate_command.specs.declared.status.Status.TheVariants.{BadCommand}
use Rattle.aggregate_command.specs.Verdict.{good_document}

pub trailing_refused : (bytes : List ℕ) (d : Document) (end : ℕ) → ((f : FileFault) → (document_of bytes ≡ Err f) ↔ IsFileFault bytes f) → IsSpelledAt bytes 0 d end → end < length bytes → good_document (document_of bytes) ≡ Err (BadCommand (record { stage = 0; why = W.Trailing end }))
trailing_refused bytes d end law spelled more = ap good_document ((law (trailing end)).1 (record { document = d; spelled = spelled; more = more }))

pub bytes_refused : (bytes : List ℕ) (b : BadBson) → ((f : FileFault) → (document_of bytes ≡ Err f) ↔ IsFileFault bytes f) → ((d : Document) (end : ℕ) → ¬ IsSpelledAt bytes 0 d end) → read_at 0 bytes ≡ Err b → good_document (document_of bytes) ≡ Err (BadCommand (record { stage = 0; why = W.Bytes b }))
bytes_refused bytes b law none fault = ap good_document ((law (bytes_fault b)).1 (none, fault))

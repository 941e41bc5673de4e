use Rattle.std.proofs.Common.{◌≡◌, ◌++◌, drop}
use Rattle.key_codec.specs.Keyed.{text_key}
use Rattle.key_codec.proofs.scalar.put_escaped.Given as goal

abbrev pub invariant-loop-b : goal.invariant-loop-b
invariant-loop-b l = l.out.items ++ text_key (drop l.b-index l.text) ≡ l.fn.out.items ++ text_key l.text

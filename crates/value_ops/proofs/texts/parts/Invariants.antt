use Rattle.std.proofs.Common.{◌≡◌, ◌++◌, length, map}
use denote.Text.{Utf8}
use denote.Shadow.{shadow}
use Rattle.bson_value.specs.Tree.{leaf, text as a_text}
use Rattle.bson_value.specs.TextRows.{parts as the_parts}
use Rattle.value_ops.proofs.texts.parts.Given as goal

abbrev pub invariant-loop-part : goal.invariant-loop-part
invariant-loop-part l = shadow (Utf8 l.rest) × (l.list ++ map (λ part. leaf (a_text part)) (the_parts l.separator 0 l.rest) ≡ map (λ part. leaf (a_text part)) (the_parts l.separator 0 l.text))

abbrev pub decreases-loop-part : goal.decreases-loop-part
decreases-loop-part l = length l.rest

use Rattle.std.proofs.Common.{◌≡◌, drop}
use Rattle.std.specs.Str.{chars, IsUtf8}
use Rattle.std.specs.Str.Iter.{chars_rest}
use Rattle.value_ops.proofs.texts.past.Given as goal

abbrev pub invariant-loop-i : goal.invariant-loop-i
invariant-loop-i l =
    (goal.iterator-loop-i).can_next l.rest × (goal.iterator-loop-i).is_finite l.rest × IsUtf8 (chars_rest l.rest) × (chars (chars_rest l.rest) ≡ drop l._i (chars l.text))

use Rattle.std.proofs.Common.{◌≡◌, ℕ, ℤ, pos, ◌-◌, ◌<ℤ◌, FitsSigned, true, ap, arith}
use Rattle.std.proofs.lemmas.Int.{ints, to_z-of_z}
use Rattle.std.specs.Int.{w64, cast_signed, cast_unsigned}
use Rattle.std.specs.Prelude.{int_lt}
use Rattle.key_codec.proofs.Numbers.{signed_key-negative}
use Rattle.key_codec.proofs.scalar.put_signed.Goals as goal

negative : (n : ℤ) → FitsSigned w64 n → int_lt (cast_signed w64 (cast_unsigned w64 n)) (pos 0) ≡ true → n <ℤ pos 0
negative n h e = grind (arith, ints)

bits : (n : ℤ) (r : ℕ) → FitsSigned w64 n → r ≡ cast_unsigned w64 (cast_signed w64 (cast_unsigned w64 n)) → r ≡ cast_unsigned w64 n
bits n r h e = grind (arith, to_z-of_z)

pub returns-then-number-lt0 : goal.returns-then-number-lt0
returns-then-number-lt0 c =
    rw (signed_key-negative c.args.number (18446744073709551615 - c.cast_unsigned.result) (negative c.args.number c.ranges.number c.if-number-lt0.true) c.ranges.number (ap (λ j. 18446744073709551615 - j) (bits c.args.number c.cast_unsigned.result c.ranges.number c.cast_unsigned.ensures))) c.put_turned_magnitude.ensures

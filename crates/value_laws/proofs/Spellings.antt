-- The decimal text of a number spells it.
use Rattle.std.proofs.Common.{◌≡◌, ℕ, suc, ◌<◌, ◌≤◌, ◌^◌, Bool, true, false, List, [], ◌∷◌, length, refl, ap, ◌∙◌, arith, ℤ, pos, negsuc, neg_ℤ, ◌≤ℤ◌}
use Rattle.std.specs.Prelude.{◌&&◌, ◌==◌, int_le, nat_le, Some}
use Rattle.std.specs.Option.{option_map}
use Rattle.std.specs.Fmt.{decimal, signed_decimal}
use Rattle.std.specs.Str.{all_ascii_digits}
use Rattle.std.specs.Str.Parse.{digits_value}
use Rattle.std.proofs.lemmas.Bool.Decides.{nat_tests}
use Rattle.std.proofs.lemmas.Int.{ints}
use Rattle.std.proofs.lemmas.Fmt.{decimal_nonempty, length-decimal-le, digits_decimal, digits_value-decimal}
use Rattle.std.proofs.lemmas.Str.Parse.{IsNumeralModel, numerals_by_value, tells_all_ascii_digits}
use Rattle.bson_value.specs.Operands.{is_int64}
use Rattle.bson_value.specs.ConversionRows.{unsigned, spelled}
use Rattle.value_laws.proofs.DayParts.{at_most}

numerals : IsNumeralModel (λ ds. all_ascii_digits ds ≡ true) (digits_value 10)
numerals = numerals_by_value (λ ds. all_ascii_digits ds ≡ true) tells_all_ascii_digits

both : (a b : Bool) → a && b ≡ true → (a ≡ true) × (b ≡ true)
both true b h = (refl, h)
both false b h = absurd (cc)

at_most-true : (m n : ℕ) → m ≤ n → nat_le m n ≡ true
at_most-true m n h = grind (arith, nat_tests)

unsigned_is : (ds : List ℕ) (n : ℕ) → all_ascii_digits ds ≡ true → 0 < length ds → length ds ≤ 19 → digits_value 10 ds ≡ n → unsigned ds ≡ Some (pos n)
unsigned_is ds n digits some few e = rw (digits, at_most-true 1 (length ds) (omega arith), at_most-true (length ds) 19 few, e) refl

unsigned_decimal : (n : ℕ) → n ≤ 9_223_372_036_854_775_808 → unsigned (decimal n) ≡ Some (pos n)
unsigned_decimal n h =
    let small : n < 2 ^ 64 = omega arith in
    unsigned_is (decimal n) n (digits_decimal numerals n small) (decimal_nonempty n small) (length-decimal-le 19 n (omega arith) (omega arith) small) (digits_value-decimal numerals n small)

no_minus : (ds : List ℕ) → all_ascii_digits ds ≡ true → 0 < length ds → spelled ds ≡ unsigned ds
no_minus [] digits some = absurd (omega arith)
no_minus (c ∷ cs) digits some =
    let range = (tells_all_ascii_digits.parts c cs digits).0 in
    let other : (c == 45) ≡ false = grind (arith, nat_tests, range.0) in
    rw other refl

spelled_pos : (n : ℕ) → n ≤ 9_223_372_036_854_775_808 → spelled (decimal n) ≡ Some (pos n)
spelled_pos n h =
    let small : n < 2 ^ 64 = omega arith in
    no_minus (decimal n) (digits_decimal numerals n small) (decimal_nonempty n small) ∙ unsigned_decimal n h

in_64_bits : (n : ℤ) → is_int64 n ≡ true → (neg_ℤ (pos 9_223_372_036_854_775_808) ≤ℤ n) × (n ≤ℤ pos 9_223_372_036_854_775_807)
in_64_bits n h =
    let parts = both (int_le (neg_ℤ (pos 9_223_372_036_854_775_808)) n) (int_le n (pos 9_223_372_036_854_775_807)) h in
    (at_most (neg_ℤ (pos 9_223_372_036_854_775_808)) n parts.0, at_most n (pos 9_223_372_036_854_775_807) parts.1)

pub shown : (n : ℤ) → is_int64 n ≡ true → spelled (signed_decimal n) ≡ Some n
shown (pos n) h = spelled_pos n (omega (arith, ints, (in_64_bits (pos n) h).1))
shown (negsuc n) h = ap (option_map neg_ℤ) (unsigned_decimal (suc n) (omega (arith, ints, (in_64_bits (negsuc n) h).0)))

-- The number that digits spell.
use Rattle.std.proofs.Common.{◌≡◌, ◌≢◌, ℕ, ◌<◌, ◌≤◌, ◌^◌, Bool, true, false, eqb, List, [], ◌∷◌, length, refl, ap, arith, pos, inl, inr}
use Rattle.std.specs.Prelude.{Some, Result, Ok, Err, nat_le}
use Rattle.std.specs.Option.{option_map}
use Rattle.std.specs.Result.{OkIff, result_ok}
use Rattle.std.specs.Str.{all_ascii_digits}
use Rattle.std.specs.Str.Parse.{digits_value, ParsesUnsigned}
use Rattle.std.proofs.lemmas.Bool.{cases_lt}
use Rattle.std.proofs.lemmas.Bool.Decides.{nat_tests}
use Rattle.std.proofs.lemmas.Map.Views.{exact_unsigned_eq}
use Rattle.std.proofs.lemmas.Str.Parse.{IsNumeralModel, numerals_by_value, tells_all_ascii_digits, parse_digits, digits_value_short}
use Rattle.bson_value.specs.ConversionRows.{unsigned, spelled}

own : IsNumeralModel (λ ds. all_ascii_digits ds ≡ true) (digits_value 10)
own = numerals_by_value (λ ds. all_ascii_digits ds ≡ true) tells_all_ascii_digits

le_true : (m n : ℕ) → m ≤ n → nat_le m n ≡ true
le_true m n h = grind (arith, nat_tests)

le_false : (m n : ℕ) → n < m → nat_le m n ≡ false
le_false m n h = grind (arith, nat_tests)

pub unsigned_is : {E : Type 0} (ds : List ℕ) (r : Result ℕ E) → ParsesUnsigned 64 10 ds r → all_ascii_digits ds ≡ true → length ds ≤ 19 → option_map (λ n. pos n) (result_ok r) ≡ unsigned ds
unsigned_is {E} ds r h all short = by r (parse_digits own 64 ds r h all)
  where
    by : (o : Result ℕ E) → OkIff o ((0 < length ds) × (digits_value 10 ds < 2 ^ 64)) (digits_value 10 ds) → option_map (λ n. pos n) (result_ok o) ≡ unsigned ds
    by (Ok x) k = rw (all, le_true 1 (length ds) k.0.0, le_true (length ds) 19 short) (ap (λ (n : ℕ). Some (pos n)) k.1)
    by (Err e) k =
        let small : digits_value 10 ds < 2 ^ 64 = omega (arith, digits_value_short own ds 19 all short) in
        elim (cases_lt 0 (length ds)) [
          | inl h ↦ absurd (k (h, small))
          | inr h ↦ rw (all, le_false 1 (length ds) (omega arith)) refl
        ]

pub plain_spelled : (s : List ℕ) → ((rest : List ℕ) → s ≢ 45 ∷ rest) → spelled s ≡ unsigned s
plain_spelled [] h = refl
plain_spelled (c ∷ cs) h = by (eqb c 45) refl
  where
    by : (b : Bool) → eqb c 45 ≡ b → spelled (c ∷ cs) ≡ unsigned (c ∷ cs)
    by true e = absurd (h cs (ap (λ (d : ℕ). d ∷ cs) (exact_unsigned_eq c 45 e)))
    by false e = rw e refl

-- Texts of numbers.
use Rattle.std.proofs.Common.{◌≡◌, ◌∙◌, ◌↔◌, ◌<◌, ◌^◌, ℕ, suc, Bool, true, false, not, ◌&&◌, ◌||◌, refl, sym, ap, ap₂, subst, inl, inr, List, [], ◌∷◌, Some, None, is_some, Err, length, get_or, decimal, true≢false, arith, nat_le, leb-true, leb-false, eq-eqb, ne_eqb, eq-zero-or-pos}
use Rattle.std.specs.Prelude.{unwrap_or}
use Rattle.std.proofs.lemmas.Fmt.{decimal-digits_value, decimal_digit, decimal_nonempty, digits_decimal, digits_value-decimal, first_decimal}
use Rattle.std.specs.List.{list_all}
use Rattle.std.specs.Char.{is_ascii_digit}
use Rattle.std.specs.Str.{all_ascii_digits}
use Rattle.std.specs.Str.Parse.{ParsesUnsigned, digits_value}
use Rattle.std.proofs.lemmas.Str.Parse.{IsNumeralModel, numerals_by_value, parse_digits, tells_all_ascii_digits}
use Rattle.command_words.specs.Numbers.{is_number, number, number_in, within}

pub all_is : (ds : List ℕ) → list_all is_ascii_digit ds ≡ all_ascii_digits ds
all_is [] = refl
all_is (d ∷ ds) = ap (λ b. is_ascii_digit d && b) (all_is ds)

pub own : IsNumeralModel (λ ds. all_ascii_digits ds ≡ true) (digits_value 10)
own = numerals_by_value _ tells_all_ascii_digits

left : (a b : Bool) → (a && b) ≡ true → a ≡ true
left true b e = refl
left false b e = e

pub digits_in : (text : List ℕ) → is_number text ≡ true → all_ascii_digits text ≡ true
digits_in [] e = refl
digits_in (d ∷ ds) e = sym (all_is (d ∷ ds)) ∙ left (list_all is_ascii_digit (d ∷ ds)) _ e

pub some_digit : (text : List ℕ) → is_number text ≡ true → 0 < length text
some_digit [] e = absurd (true≢false (sym e))
some_digit (d ∷ ds) e = omega arith

out_of : (low high n : ℕ) → high < n → within low high n ≡ None
out_of low high n more = go (nat_le low n) (nat_le n high) refl refl
  where
    go : (a b : Bool) → nat_le low n ≡ a → nat_le n high ≡ b → within low high n ≡ None
    go true true e f = absurd (omega (arith, leb-true n high f))
    go true false e f = rw (e, f) refl
    go false b e f = rw e refl

-- digits that spell no number of 64 bits are out of each range of them
pub too_long : {E : Type 0} (text : List ℕ) (low high : ℕ) (e : E) → high < 2 ^ 64 → is_number text ≡ true → ParsesUnsigned 64 10 text (Err e) → number_in low high text ≡ None
too_long text low high e small is parsed = rw is (out_of low high (digits_value 10 text) (go (nat_le (2 ^ 64) (digits_value 10 text)) refl))
  where
    go : (b : Bool) → nat_le (2 ^ 64) (digits_value 10 text) ≡ b → high < digits_value 10 text
    go true more = omega (arith, leb-true (2 ^ 64) (digits_value 10 text) more)
    go false less = absurd (parse_digits own 64 text (Err e) parsed (digits_in text is) (some_digit text is, omega (arith, leb-false (2 ^ 64) (digits_value 10 text) less)))

-- ---- numbers and their decimal digits

some_is : {x y : ℕ} → Some x ≡ Some y → x ≡ y
some_is {x} {y} e = ap (λ o. unwrap_or o x) e

no_leading : (text : List ℕ) → is_number text ≡ true → get_or text 0 0 ≡ 48 → length text ≡ 1
no_leading [] is zero_first = absurd (true≢false (sym is))
no_leading (d ∷ []) is zero_first = refl
no_leading (d ∷ c ∷ cs) is zero_first = absurd (true≢false (sym (sym bad ∙ is)))
  where
    and_false : (b : Bool) → (b && false) ≡ false
    and_false true = refl
    and_false false = refl

    bad : is_number (d ∷ c ∷ cs) ≡ false
    bad = ap (λ x. list_all is_ascii_digit (d ∷ c ∷ cs) && (false || not x)) (eq-eqb d 48 zero_first) ∙ and_false _

is_decimal : (text : List ℕ) (n : ℕ) (b : Bool) → is_number text ≡ b → n < 2 ^ 64 → number text ≡ Some n → text ≡ decimal n
is_decimal text n false is small e = absurd (true≢false (sym (ap is_some (rw is at e))))
is_decimal text n true is small e =
    let value : digits_value 10 text ≡ n = some_is (rw is at e) in
    sym (decimal-digits_value own text (digits_in text is) (some_digit text is) (no_leading text is) (rw value small)) ∙ ap decimal value

first_digit : (n : ℕ) → n < 2 ^ 64 → (ds : List ℕ) → decimal n ≡ ds → all_ascii_digits ds ≡ true → is_number ds ≡ true
first_digit n small [] e all = absurd (let bad : 0 < 0 = subst (λ ds. 0 < length ds) e (decimal_nonempty n small) in omega arith)
first_digit n small (d ∷ []) e all = ap (λ b. b && true) (all_is (d ∷ []) ∙ all)
first_digit n small (d ∷ c ∷ cs) e all = ap₂ (λ a b. a && (false || not b)) (all_is (d ∷ c ∷ cs) ∙ all) (ne_eqb d 48 (λ z. not_zero z))
  where
    more : 0 < n → 48 < d
    more pos_n = subst (λ ds. 48 < get_or ds 0 0) e (first_decimal n pos_n small)

    not_zero : d ≡ 48 → ⊥
    not_zero z = elim (eq-zero-or-pos n) [
      | inl zero_n ↦ let one : suc (suc (length cs)) ≡ 1 = sym (ap length e) ∙ ap (λ k. length (decimal k)) zero_n ∙ ap length (decimal_digit 0 (omega arith)) in absurd (omega arith)
      | inr pos_n ↦ absurd (omega (arith, more pos_n))
    ]

-- a text is read as a number just where it is the number's digits
pub number_is : (text : List ℕ) (n : ℕ) → n < 2 ^ 64 → (number text ≡ Some n) ↔ (text ≡ decimal n)
number_is text n small = (
  λ e. is_decimal text n (is_number text) refl small e,
  λ e. subst (λ t. number t ≡ Some n) (sym e) (rw (first_digit n small (decimal n) refl (digits_decimal own n small)) (ap Some (digits_value-decimal own n small))),
)

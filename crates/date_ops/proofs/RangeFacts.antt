-- Dates of the years 1 to 9999.
use Rattle.std.proofs.Common.{◌≡◌, ℕ, ◌+◌, ◌%◌, ◌<◌, ℤ, pos, negsuc, neg_ℤ, unsigned_abs, ◌+ℤ◌, ◌-ℤ◌, ◌*ℤ◌, ◌≤ℤ◌, ◌<ℤ◌, Bool, true, false, cond, Ok, Err, refl, arith}
use Rattle.std.proofs.lemmas.Int.{ints}
use Rattle.jiff_core.proofs.SignedLemmas.{signed_arith, one_part, int_rem_euclid-parts}
use Rattle.jiff_core.proofs.CalendarLemmas.{weekday_number-parts}
use Rattle.jiff_core.specs.Calendar.{weekday_number}
use Rattle.std.specs.Int.{int_div_euclid, int_rem_euclid}
use Rattle.bson_value.specs.declared.eval_code.EvalCode.TheVariants.{DateRange}
use Rattle.bson_value.specs.Calendar.{is_date, is_month, day_number, sunday_week}

-- an answer that is Ok where it may be refused
pub answer-ok : (b : Bool) (x v : ℤ) → Ok v ≡ cond b (Ok x) (Err DateRange) → (b ≡ true) × (v ≡ x)
answer-ok true x v e = (refl, cc)
answer-ok false x v e = cc

pub is_date-bounds : (ms : ℤ) → is_date ms ≡ true → (neg_ℤ (pos 62_135_596_800_000) ≤ℤ ms) × (ms ≤ℤ pos 253_402_300_799_999)
is_date-bounds ms h = grind (arith, ints)

pub day_number-bounds : (ms : ℤ) → is_date ms ≡ true → (neg_ℤ (pos 719_162) ≤ℤ day_number ms) × (day_number ms ≤ℤ pos 2_932_896)
day_number-bounds ms h =
    let b = is_date-bounds ms h in
    omega (arith, signed_arith)

pub is_month-true : (n : ℤ) → pos 12 ≤ℤ n → n ≤ℤ pos 119_999 → is_month n ≡ true
is_month-true n low high = grind (arith, ints)

pub is_month-early : (n : ℤ) → n <ℤ pos 12 → is_month n ≡ false
is_month-early n h = grind (arith, ints)

pub is_month-late : (n : ℤ) → pos 119_999 <ℤ n → is_month n ≡ false
is_month-late n h = grind (arith, ints)

-- the Sunday that begins a day's week
pub sunday-week : (day : ℤ) → sunday_week day *ℤ pos 7 -ℤ pos 4 +ℤ pos ((weekday_number day + 1) % 7) ≡ day
sunday-week day = omega (arith, signed_arith, one_part day, one_part (sunday_week day), weekday_number-parts day)

-- what a remainder leaves
pub floor-is : (ms : ℤ) (n : ℕ) → 0 < n → int_div_euclid ms (pos n) *ℤ pos n ≡ ms -ℤ int_rem_euclid ms (pos n)
floor-is ms n h = omega (arith, signed_arith, int_rem_euclid-parts ms n h)

pub not_negative : (z : ℤ) → pos 0 ≤ℤ z → z ≡ pos (unsigned_abs z)
not_negative (pos n) h = refl
not_negative (negsuc n) h = absurd (omega (arith, ints))

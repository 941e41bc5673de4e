-- The greatest amount that can be subtracted leads out of the years 1 to 9999, whatever the unit.
use Rattle.std.proofs.Common.{◌≡◌, ℤ, pos, neg_ℤ, ◌+ℤ◌, ◌*ℤ◌, ◌≤ℤ◌, ◌<ℤ◌, Bool, true, false, cond, Err, refl, sym, arith}
use Rattle.std.proofs.lemmas.Int.{ints}
use Rattle.bson_value.specs.declared.eval_code.EvalCode.TheVariants.{DateRange}
use Rattle.bson_value.specs.declared.unit.Unit.{Unit as DateUnit}
use Rattle.bson_value.specs.declared.unit.Unit.TheVariants as U
use Rattle.expr_tree.specs.Rows.{signed}
use Rattle.bson_value.specs.Calendar.{is_date, dated, year, month_number, day_number, is_month, months_later, later, add_at}

is_date-from : (ms : ℤ) → is_date ms ≡ true → neg_ℤ (pos 62_135_596_800_000) ≤ℤ ms
is_date-from ms h = grind (arith, ints)

is_date-late : (ms : ℤ) → pos 253_402_300_799_999 <ℤ ms → is_date ms ≡ false
is_date-late ms h = grind (arith, ints)

dated-late : (ms : ℤ) → pos 253_402_300_799_999 <ℤ ms → dated ms ≡ Err DateRange
dated-late ms h = rw (is_date-late ms h) refl

is_month-late : (n : ℤ) → pos 119_999 <ℤ n → is_month n ≡ false
is_month-late n h = grind (arith, ints)

year-from : (day : ℤ) → pos 0 ≤ℤ year day
unfolding year
year-from day = omega (arith, ints)

months-late : (ms months : ℤ) → pos 119_999 <ℤ months → months_later ms months ≡ Err DateRange
months-late ms months h = rw (is_month-late (month_number (day_number ms) +ℤ months) (omega (arith, ints, year-from (day_number ms)))) refl

far : (unit : DateUnit) (ms : ℤ) → is_date ms ≡ true → later unit ms (pos 9_223_372_036_854_775_808) ≡ Err DateRange
far U.Year ms h = months-late ms (pos 9_223_372_036_854_775_808 *ℤ pos 12) (omega (arith, ints))
far U.Quarter ms h = months-late ms (pos 9_223_372_036_854_775_808 *ℤ pos 3) (omega (arith, ints))
far U.Month ms h = months-late ms (pos 9_223_372_036_854_775_808) (omega (arith, ints))
far U.Week ms h = dated-late (ms +ℤ pos 9_223_372_036_854_775_808 *ℤ pos 604_800_000) (omega (arith, ints, is_date-from ms h))
far U.Day ms h = dated-late (ms +ℤ pos 9_223_372_036_854_775_808 *ℤ pos 86_400_000) (omega (arith, ints, is_date-from ms h))
far U.Hour ms h = dated-late (ms +ℤ pos 9_223_372_036_854_775_808 *ℤ pos 3_600_000) (omega (arith, ints, is_date-from ms h))
far U.Minute ms h = dated-late (ms +ℤ pos 9_223_372_036_854_775_808 *ℤ pos 60_000) (omega (arith, ints, is_date-from ms h))
far U.Second ms h = dated-late (ms +ℤ pos 9_223_372_036_854_775_808 *ℤ pos 1_000) (omega (arith, ints, is_date-from ms h))
far U.Millisecond ms h = dated-late (ms +ℤ pos 9_223_372_036_854_775_808) (omega (arith, ints, is_date-from ms h))

pub too_far : (unit : DateUnit) (ms : ℤ) → add_at unit ms (pos 9_223_372_036_854_775_808) ≡ Err DateRange
too_far unit ms =
    elim (is_date ms) as (λ b. is_date ms ≡ b → cond b (later unit ms (pos 9_223_372_036_854_775_808)) (Err DateRange) ≡ Err DateRange) [
      | true ↦ λ h. far unit ms h
      | false ↦ λ h. refl
    ] refl

pub too_far_back : (unit : DateUnit) (ms n : ℤ) (back : Bool) → back ≡ true → n ≡ neg_ℤ (pos 9_223_372_036_854_775_808) → Err DateRange ≡ add_at unit ms (signed back n)
too_far_back unit ms n back b e = rw (b, e) (sym (too_far unit ms))

-- Products within 64 bits.
use Rattle.std.proofs.Common.{◌≡◌, ℕ, zero, suc, ◌≤◌, Bool, true, false, List, [], ◌∷◌, take, length, refl, ap, ◌∙◌, arith, ℤ, pos, ◌*ℤ◌}
use Rattle.std.specs.Prelude.{fold, Ok, Err, if◌then◌else◌}
use Rattle.bson_value.specs.declared.eval_code.EvalCode.{EvalCode}
use Rattle.bson_value.specs.declared.eval_code.EvalCode.TheVariants.{Overflow}
use Rattle.bson_value.specs.Operands.{is_int64}
use Rattle.bson_value.specs.NumberRows.{times}

fits_from : (ns : List ℤ) (a : ℤ) → ((k : ℕ) → k ≤ length ns → is_int64 (fold ◌*ℤ◌ a (take k ns)) ≡ true) → fold times (Ok a) ns ≡ Ok (fold ◌*ℤ◌ a ns)
fits_from [] a h = refl
fits_from (n ∷ ns) a h =
    ap (λ (b : Bool). fold times (if b then Ok (a *ℤ n) else Err Overflow) ns) (h 1 (omega arith))
    ∙ fits_from ns (a *ℤ n) (λ k le. h (suc k) (omega arith))

pub fits : (ns : List ℤ) → ((k : ℕ) → k ≤ length ns → is_int64 (fold ◌*ℤ◌ (pos 1) (take k ns)) ≡ true) → fold times (Ok (pos 1)) ns ≡ Ok (fold ◌*ℤ◌ (pos 1) ns)
fits ns h = fits_from ns (pos 1) h

stays : (ns : List ℤ) (c : EvalCode) → fold times (Err c) ns ≡ Err c
stays [] c = refl
stays (n ∷ ns) c = stays ns c

passes : (b : Bool) (ns : List ℤ) (a : ℤ) → (b ≡ true → fold times (Ok a) ns ≡ Err Overflow) → fold times (if b then Ok a else Err Overflow) ns ≡ Err Overflow
passes true ns a rest = rest refl
passes false ns a rest = stays ns Overflow

overflows_from : (ns : List ℤ) (a : ℤ) (k : ℕ) → is_int64 a ≡ true → is_int64 (fold ◌*ℤ◌ a (take k ns)) ≡ false → fold times (Ok a) ns ≡ Err Overflow
overflows_from [] a zero fit h = absurd (cc)
overflows_from [] a (suc k) fit h = absurd (cc)
overflows_from (n ∷ ns) a zero fit h = absurd (cc)
overflows_from (n ∷ ns) a (suc k) fit h = passes (is_int64 (a *ℤ n)) ns (a *ℤ n) (λ e. overflows_from ns (a *ℤ n) k e h)

pub overflows : (ns : List ℤ) (k : ℕ) → is_int64 (fold ◌*ℤ◌ (pos 1) (take k ns)) ≡ false → fold times (Ok (pos 1)) ns ≡ Err Overflow
overflows ns k h = overflows_from ns (pos 1) k refl h

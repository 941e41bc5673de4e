-- Numbers and lengths.
use Rattle.std.proofs.Common.{◌≡◌, ℕ, zero, suc, ◌+◌, ◌-◌, ◌*◌, ◌/◌, ◌%◌, ◌^◌, ◌<◌, ◌<ℤ◌, ◌≤◌, ℤ, pos, negsuc, List, [], ◌∷◌, ◌++◌, length, replicate, refl, sym, ap, subst, ◌∙◌, arith, inl, inr, FitsSigned, pow-suc, mul_comm}
use Rattle.std.specs.Ordering.{nat_cmp, int_cmp, ordering_then, ordering_reverse}
use Rattle.std.specs.Int.{w64, to_be_bytes, cast_unsigned, byte_at, bytes_high_first}
use Rattle.std.proofs.Math.Nat.{pow-le-pow_right}
use Rattle.std.proofs.Math.Arith.{mod-mul}
use Rattle.std.proofs.lemmas.Bool.{cases_order}
use Rattle.std.proofs.lemmas.Bool.Decides.{nat_tests}
use Rattle.std.proofs.lemmas.Int.{ints}
use Rattle.std.proofs.lemmas.Nat.{div-add-mod', mod_below, mul-le}
use Rattle.std.specs.declared.cmp.Ordering.TheVariants.{Equal}
use Rattle.bson_value.specs.Order.{bytes_order}
use Rattle.key_codec.specs.Keyed.{significant, magnitude_key, signed_key, length_key}
use Rattle.key_codec.proofs.Texts.{even_tells}
use Rattle.key_codec.proofs.Turned.{AreOctets, turned, turned_tells}
use Rattle.key_codec.proofs.Octets.{AreOctets-high}
use Rattle.key_codec.proofs.Tells.{Tells, then_Equal, cmp_lt, cmp_gt, cmp_same, cmp_equal, byte_tells, less_tells, greater_tells, joined_if, begun}

-- a row and a place in it, of so many
row_below : (q a b c d : ℕ) → b < q → a < c → a * q + b < c * q + d
row_below q a b c d h l = omega (arith, mul-le (suc a) q c q (omega arith) (omega arith))

place_cmp : (n a b : ℕ) → nat_cmp (n + a) (n + b) ≡ nat_cmp a b
place_cmp n a b = grind (arith, nat_tests)

suc_cmp : (a b : ℕ) → nat_cmp (suc a) (suc b) ≡ nat_cmp a b
suc_cmp a b = grind (arith, nat_tests)

row_cmp : (q a b c d : ℕ) → b < q → d < q → nat_cmp (a * q + b) (c * q + d) ≡ ordering_then (nat_cmp a c) (nat_cmp b d)
row_cmp q a b c d h k = elim (cases_order a c) [
  | inl e ↦ rw (e, cmp_same c) (place_cmp (c * q) b d)
  | inr s ↦ elim s [
    | inl l ↦ rw (cmp_lt a c l) (cmp_lt (a * q + b) (c * q + d) (row_below q a b c d h l))
    | inr g ↦ rw (cmp_gt a c g) (cmp_gt (a * q + b) (c * q + d) (row_below q c d a b k g))
  ]
]

some_bytes : (k : ℕ) → 0 < 256 ^ k
some_bytes k = pow-le-pow_right {n = 256} (omega arith) {i = 0} {j = k} (omega arith)

-- the low bytes of a number, one more of them
byte_on : (k n : ℕ) → byte_at k n * 256 ^ k + n % 256 ^ k ≡ n % 256 ^ suc k
byte_on zero n = omega arith
byte_on (suc k) n =
    let wider : 256 ^ suc (suc k) ≡ 256 * 256 ^ suc k = pow-suc 256 (suc k) ∙ mul_comm (256 ^ suc k) 256 in
    rw wider (sym (mod-mul n {m = 256} {c = 256 ^ suc k} (omega arith) (some_bytes (suc k))))

high_tells : (k n m : ℕ) → Tells (nat_cmp (n % 256 ^ k) (m % 256 ^ k)) (bytes_high_first k n) (bytes_high_first k m)
high_tells zero n m =
    let a : n % 256 ^ 0 ≡ 0 = omega arith in
    let b : m % 256 ^ 0 ≡ 0 = omega arith in
    record { at = λ x y. rw (a, b) refl }
high_tells (suc k) n m =
    let e : nat_cmp (n % 256 ^ suc k) (m % 256 ^ suc k) ≡ ordering_then (nat_cmp (byte_at k n) (byte_at k m)) (nat_cmp (n % 256 ^ k) (m % 256 ^ k)) =
    rw (sym (byte_on k n), sym (byte_on k m)) (row_cmp (256 ^ k) (byte_at k n) (n % 256 ^ k) (byte_at k m) (m % 256 ^ k) (mod_below n (256 ^ k) (some_bytes k)) (mod_below m (256 ^ k) (some_bytes k))) in
    subst (λ o. Tells o (bytes_high_first (suc k) n) (bytes_high_first (suc k) m)) (sym e) (begun (byte_at k n) (byte_at k m) (high_tells k n m))

pub unsigned_tells : (n m : ℕ) → n < 2 ^ 64 → m < 2 ^ 64 → Tells (nat_cmp n m) (to_be_bytes w64 n) (to_be_bytes w64 m)
unsigned_tells n m h k =
    let a : n % 256 ^ 8 ≡ n = omega arith in
    let b : m % 256 ^ 8 ≡ m = omega arith in
    subst (λ o. Tells o (to_be_bytes w64 n) (to_be_bytes w64 m)) (ap (λ j. nat_cmp j (m % 256 ^ 8)) a ∙ ap (nat_cmp n) b) (high_tells 8 n m)

pub pos_cmp : (n m : ℕ) → int_cmp (pos n) (pos m) ≡ nat_cmp n m
pos_cmp n m = grind (arith, nat_tests)

neg_cmp : (n m : ℕ) → int_cmp (negsuc n) (negsuc m) ≡ ordering_reverse (nat_cmp n m)
neg_cmp n m = grind (arith, nat_tests)

-- bytes without leading 0
length-significant : (s : List ℕ) → length (significant s) ≤ length s
length-significant [] = omega arith
length-significant (zero ∷ s) = omega (arith, length-significant s)
length-significant (suc b ∷ s) = omega arith

significant_cmp : (s t : List ℕ) → length s ≡ length t → bytes_order s t ≡ ordering_then (nat_cmp (length (significant s)) (length (significant t))) (bytes_order (significant s) (significant t))
significant_cmp [] [] e = refl
significant_cmp [] (b ∷ t) e = absurd (omega arith)
significant_cmp (a ∷ s) [] e = absurd (omega arith)
significant_cmp (zero ∷ s) (zero ∷ t) e = significant_cmp s t (omega arith)
significant_cmp (zero ∷ s) (suc b ∷ t) e = rw (cmp_lt 0 (suc b) (omega arith), cmp_lt (length (significant s)) (suc (length t)) (omega (arith, length-significant s))) refl
significant_cmp (suc a ∷ s) (zero ∷ t) e = rw (cmp_gt (suc a) 0 (omega arith), cmp_gt (suc (length s)) (length (significant t)) (omega (arith, length-significant t))) refl
significant_cmp (suc a ∷ s) (suc b ∷ t) e =
    let f : nat_cmp (suc (length s)) (suc (length t)) ≡ Equal = ap (λ j. nat_cmp j (suc (length t))) e ∙ cmp_same (suc (length t)) in
    rw f refl

pub length-magnitude : (n : ℕ) → length (magnitude_key n) ≤ 9
length-magnitude n = omega (arith, length-significant (to_be_bytes w64 n))

AreOctets-significant : (s : List ℕ) → AreOctets s → AreOctets (significant s)
AreOctets-significant [] h = h
AreOctets-significant (zero ∷ s) h = AreOctets-significant s h.1
AreOctets-significant (suc b ∷ s) h = h

pub AreOctets-magnitude : (n : ℕ) → AreOctets (magnitude_key n)
AreOctets-magnitude n = (omega (arith, length-significant (to_be_bytes w64 n)), AreOctets-significant (to_be_bytes w64 n) (AreOctets-high 8 n))

pub AreOctets-turned : (s : List ℕ) → AreOctets (turned s)
AreOctets-turned [] = tt
AreOctets-turned (b ∷ s) = (omega arith, AreOctets-turned s)

pub AreOctets-signed : (n : ℤ) → AreOctets (signed_key n)
AreOctets-signed (pos n) = AreOctets-magnitude n
AreOctets-signed (negsuc n) = AreOctets-turned (magnitude_key n)

significant_tells : (s t : List ℕ) → length s ≡ length t → Tells (bytes_order s t) ((128 + length (significant s)) ∷ significant s) ((128 + length (significant t)) ∷ significant t)
significant_tells s t e =
    let a : nat_cmp (128 + length (significant s)) (128 + length (significant t)) ≡ nat_cmp (length (significant s)) (length (significant t)) = place_cmp 128 (length (significant s)) (length (significant t)) in
    subst (λ o. Tells o ((128 + length (significant s)) ∷ significant s) ((128 + length (significant t)) ∷ significant t))
    (ap (λ q. ordering_then q (bytes_order (significant s) (significant t))) a ∙ sym (significant_cmp s t e))
    (joined_if (nat_cmp (128 + length (significant s)) (128 + length (significant t))) (bytes_order (significant s) (significant t)) ((128 + length (significant s)) ∷ []) ((128 + length (significant t)) ∷ []) (significant s) (significant t)
    (byte_tells (128 + length (significant s)) (128 + length (significant t)))
    (λ q. even_tells (significant s) (significant t) (cmp_equal (length (significant s)) (length (significant t)) (sym a ∙ q))))

magnitude_tells : (n m : ℕ) → n < 2 ^ 64 → m < 2 ^ 64 → Tells (nat_cmp n m) (magnitude_key n) (magnitude_key m)
magnitude_tells n m h k =
    let e : bytes_order (to_be_bytes w64 n) (to_be_bytes w64 m) ≡ nat_cmp n m = (unsigned_tells n m h k).at [] [] ∙ then_Equal (nat_cmp n m) in
    subst (λ o. Tells o (magnitude_key n) (magnitude_key m)) e (significant_tells (to_be_bytes w64 n) (to_be_bytes w64 m) refl)

pub signed_tells : (n m : ℤ) → FitsSigned w64 n → FitsSigned w64 m → Tells (int_cmp n m) (signed_key n) (signed_key m)
signed_tells (pos n) (pos m) h k = subst (λ o. Tells o (magnitude_key n) (magnitude_key m)) (sym (pos_cmp n m)) (magnitude_tells n m (omega (arith, ints)) (omega (arith, ints)))
signed_tells (pos n) (negsuc m) h k = greater_tells (128 + length (significant (to_be_bytes w64 n))) (255 - (128 + length (significant (to_be_bytes w64 m)))) (significant (to_be_bytes w64 n)) (turned (significant (to_be_bytes w64 m))) (omega arith)
signed_tells (negsuc n) (pos m) h k = less_tells (255 - (128 + length (significant (to_be_bytes w64 n)))) (128 + length (significant (to_be_bytes w64 m))) (turned (significant (to_be_bytes w64 n))) (significant (to_be_bytes w64 m)) (omega arith)
signed_tells (negsuc n) (negsuc m) h k =
    subst (λ o. Tells o (signed_key (negsuc n)) (signed_key (negsuc m))) (sym (neg_cmp n m))
    (turned_tells (nat_cmp n m) (magnitude_key n) (magnitude_key m) (AreOctets-magnitude n) (AreOctets-magnitude m) (magnitude_tells n m (omega (arith, ints)) (omega (arith, ints))))

-- so many bytes 255 and a lesser one
run_tells : (q r p s : ℕ) → r < 255 → s < 255 → Tells (ordering_then (nat_cmp q p) (nat_cmp r s)) (replicate q 255 ++ r ∷ []) (replicate p 255 ++ s ∷ [])
run_tells zero r zero s h k = byte_tells r s
run_tells zero r (suc p) s h k = record { at = λ x y. rw (cmp_lt r 255 h, cmp_lt 0 (suc p) (omega arith)) refl }
run_tells (suc q) r zero s h k = record { at = λ x y. rw (cmp_gt 255 s k, cmp_gt (suc q) 0 (omega arith)) refl }
run_tells (suc q) r (suc p) s h k = record { at = λ x y. rw (suc_cmp q p) ((run_tells q r p s h k).at x y) }

pub length_tells : (n m : ℕ) → Tells (nat_cmp n m) (length_key n) (length_key m)
length_tells n m =
    let e : ordering_then (nat_cmp (n / 255) (m / 255)) (nat_cmp (n % 255) (m % 255)) ≡ nat_cmp n m =
    sym (row_cmp 255 (n / 255) (n % 255) (m / 255) (m % 255) (omega arith) (omega arith)) ∙ (ap (λ j. nat_cmp j (m / 255 * 255 + m % 255)) (div-add-mod' n 255) ∙ ap (nat_cmp n) (div-add-mod' m 255)) in
    subst (λ o. Tells o (length_key n) (length_key m)) e (run_tells (n / 255) (n % 255) (m / 255) (m % 255) (omega arith) (omega arith))

pub signed_key-negative : (n : ℤ) (m : ℕ) → n <ℤ pos 0 → FitsSigned w64 n → m ≡ 18446744073709551615 - cast_unsigned w64 n → signed_key n ≡ turned (magnitude_key m)
signed_key-negative (pos k) m l h e = absurd (omega (arith, ints))
signed_key-negative (negsuc k) m l h e =
    let f : m ≡ k = omega (arith, ints) in
    ap (λ j. turned (magnitude_key j)) (sym f)

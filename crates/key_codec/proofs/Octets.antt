-- Bytes, each below 256.
use Rattle.std.proofs.Common.{◌≡◌, ℕ, zero, suc, ◌/◌, ◌%◌, ◌^◌, ◌<◌, true, ltb, List, [], ◌∷◌, ◌++◌, replicate, subst, arith, inl, inr, IsUtf8}
use Rattle.std.proofs.lemmas.Bool.{and_parts, cond_both, ltb-true}
use Rattle.std.specs.Int.{bytes_high_first}
use lib.Utf8.{scalar, scalars, encode, encodes, scalar_cases}
use Rattle.bson_value.specs.Proper.{AreBytes}
use Rattle.key_codec.specs.Keyed.{text_key, length_key}
use Rattle.key_codec.proofs.Turned.{AreOctets, AreOctets-append}

pub AreOctets-bytes : (s : List ℕ) → AreBytes s → AreOctets s
AreOctets-bytes [] h = tt
AreOctets-bytes (b ∷ s) h = (h 0, AreOctets-bytes s (λ i. h (suc i)))

pub AreBytes-octets : (s : List ℕ) → AreOctets s → AreBytes s
AreBytes-octets [] h zero = omega arith
AreBytes-octets [] h (suc i) = omega arith
AreBytes-octets (b ∷ s) h zero = h.0
AreBytes-octets (b ∷ s) h (suc i) = AreBytes-octets s h.1 i

AreOctets-encode : (c : ℕ) → c < 2 ^ 21 → AreOctets (encode c)
unfolding encode
AreOctets-encode c h =
    cond_both (ltb c 128) _ _ AreOctets (λ e. (omega (arith, ltb-true c 128 e), tt)) (λ _.
    cond_both (ltb c 2048) _ _ AreOctets (λ e. (omega (arith, ltb-true c 2048 e), (omega arith, tt))) (λ _.
    cond_both (ltb c 65536) _ _ AreOctets (λ e. (omega (arith, ltb-true c 65536 e), (omega arith, (omega arith, tt)))) (λ _. (omega arith, (omega arith, (omega arith, (omega arith, tt)))))))

scalar_below : (c : ℕ) → scalar c ≡ true → c < 2 ^ 21
scalar_below c e = elim (scalar_cases c e) [ inl l ↦ omega arith | inr g ↦ omega (arith, g.1) ]

AreOctets-encodes : (cs : List ℕ) → scalars cs ≡ true → AreOctets (encodes cs)
AreOctets-encodes [] e = tt
AreOctets-encodes (c ∷ cs) e = AreOctets-append (encode c) (encodes cs) (AreOctets-encode c (scalar_below c (and_parts _ _ e).0)) (AreOctets-encodes cs (and_parts _ _ e).1)

pub AreOctets-utf8 : (s : List ℕ) → IsUtf8 s → AreOctets s
AreOctets-utf8 s h = subst AreOctets h.1.1 (AreOctets-encodes h.0 h.1.0)

pub AreOctets-text : (s : List ℕ) → AreOctets s → AreOctets (text_key s)
AreOctets-text [] h = (omega arith, (omega arith, tt))
AreOctets-text (zero ∷ s) h = (omega arith, (omega arith, AreOctets-text s h.1))
AreOctets-text (suc b ∷ s) h = (h.0, AreOctets-text s h.1)

pub AreOctets-high : (k n : ℕ) → AreOctets (bytes_high_first k n)
AreOctets-high zero n = tt
AreOctets-high (suc zero) n = (omega arith, tt)
AreOctets-high (suc (suc k)) n = (omega arith, AreOctets-high (suc k) n)

AreOctets-run : (q r : ℕ) → r < 256 → AreOctets (replicate q 255 ++ r ∷ [])
AreOctets-run zero r h = (h, tt)
AreOctets-run (suc q) r h = (omega arith, AreOctets-run q r h)

pub AreOctets-length : (n : ℕ) → AreOctets (length_key n)
AreOctets-length n = AreOctets-run (n / 255) (n % 255) (omega arith)

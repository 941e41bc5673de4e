-- What the slots stand for, as the bytes grow.
use Rattle.std.proofs.Common.{◌≡◌, ℕ, zero, suc, ◌+◌, ◌-◌, ◌*◌, ◌<◌, ◌≤◌, List, [], ◌∷◌, ◌++◌, length, take, Bool, true, false, ltb, ltb-true, ltb-false, refl, sym, ap, subst, ◌∙◌, arith, length-append}
use Rattle.std.specs.Prelude.{drop}
use lib.ListN.{length-take, length-drop}
use mathlib.Core.List.{append_assoc, reverse-cons}
use lib.ListN.{get_or-append}
use lib.Seq.{get_or-append_right}
use Rattle.std.specs.Prelude.{slice_index_or, map, reverse}
use Rattle.std.specs.List.{sum_by}
use Rattle.std.specs.List.Sorted.{IsPermutation, IsSortedBy}
use Rattle.std.proofs.lemmas.List.Sums.{sum_by-cons}
use Rattle.std.proofs.lemmas.List.Elements.{All-from_recursion, recursion_from_All}
use Rattle.std.proofs.lemmas.List.Sorted.{IsPermutation-trans, IsPermutation-sym, IsPermutation-map, IsPermutation-reverse, sum_by-IsPermutation, All-permutation}
use Rattle.pile.specs.Records.{Record, counted_sum, record_of, records_of, AllWithin, named, record_lt, slot_lt}
use Rattle.pile.specs.declared.slot.Slot.{Slot}

pub length-records : (bytes : List ℕ) (ss : List Slot) → length (records_of bytes ss) ≡ length ss
length-records bytes [] = refl
length-records bytes (s ∷ ss) = omega (arith, length-append (records_of bytes ss) (record_of bytes s ∷ []), length-records bytes ss)

pub counted-append : (xs ys : List Record) → counted_sum (xs ++ ys) ≡ counted_sum xs + counted_sum ys
counted-append [] ys = omega arith
counted-append (x ∷ xs) ys = omega (arith, counted-append xs ys)

pub counted-records : (bytes : List ℕ) (ss : List Slot) → AllWithin (length bytes) ss → counted_sum (records_of bytes ss) ≡ named ss + 24 * length ss
counted-records bytes [] w = refl
counted-records bytes (s ∷ ss) w =
    omega (
      arith,
      counted-append (records_of bytes ss) (record_of bytes s ∷ []),
      counted-records bytes ss w.1,
      length-take s.key (drop s.at bytes),
      length-drop s.at bytes,
      length-take s.body (drop (s.at + s.key) bytes),
      length-drop (s.at + s.key) bytes,
      w.0,
    )

pub within_grows : (n m : ℕ) (ss : List Slot) → n ≤ m → AllWithin n ss → AllWithin m ss
within_grows n m [] le w = tt
within_grows n m (s ∷ ss) le w = (omega (arith, le, w.0), within_grows n m ss le w.1)

drop-front : (n : ℕ) (xs ys : List ℕ) → n ≤ length xs → drop n (xs ++ ys) ≡ drop n xs ++ ys
drop-front zero xs ys le = refl
drop-front (suc n) [] ys le = absurd (omega (arith, le))
drop-front (suc n) (x ∷ xs) ys le = drop-front n xs ys (omega (arith, le))

take-front : (n : ℕ) (xs ys : List ℕ) → n ≤ length xs → take n (xs ++ ys) ≡ take n xs
take-front zero xs ys le = refl
take-front (suc n) [] ys le = absurd (omega (arith, le))
take-front (suc n) (x ∷ xs) ys le = ap (λ zs. x ∷ zs) (take-front n xs ys (omega (arith, le)))

part-front : (at n : ℕ) (xs ys : List ℕ) → at + n ≤ length xs → take n (drop at (xs ++ ys)) ≡ take n (drop at xs)
part-front at n xs ys le = ap (take n) (drop-front at xs ys (omega (arith, le))) ∙ take-front n (drop at xs) ys (omega (arith, le, length-drop at xs))

pub records-grow : (bytes more : List ℕ) (ss : List Slot) → AllWithin (length bytes) ss → records_of (bytes ++ more) ss ≡ records_of bytes ss
records-grow bytes more [] w = refl
records-grow bytes more (s ∷ ss) w =
    let k = part-front s.at s.key bytes more (omega (arith, w.0)) in let b = part-front (s.at + s.key) s.body bytes more w.0 in
    λ i. records-grow bytes more ss w.1 i ++ record { key = k i; body = b i; seq = s.seq } ∷ []

drop-all : (xs ys : List ℕ) → drop (length xs) (xs ++ ys) ≡ ys
drop-all [] ys = refl
drop-all (x ∷ xs) ys = drop-all xs ys

take-all : (xs ys : List ℕ) → take (length xs) (xs ++ ys) ≡ xs
take-all [] ys = refl
take-all (x ∷ xs) ys = ap (λ zs. x ∷ zs) (take-all xs ys)

take-exact : (xs : List ℕ) → take (length xs) xs ≡ xs
take-exact [] = refl
take-exact (x ∷ xs) = ap (λ zs. x ∷ zs) (take-exact xs)

-- the record of a slot over bytes that end with its key and its body
pub record-last : (bytes key body : List ℕ) (s : Slot) → s.at ≡ length bytes → s.key ≡ length key → s.body ≡ length body
    → record_of ((bytes ++ key) ++ body) s ≡ record { key = key; body = body; seq = s.seq }
record-last bytes key body s e k b =
    let along : (bytes ++ key) ++ body ≡ bytes ++ (key ++ body) = append_assoc bytes key body in
    let key_is : take s.key (drop s.at ((bytes ++ key) ++ body)) ≡ key =
    (λ i. take (k i) (drop (e i) (along i))) ∙ ap (take (length key)) (drop-all bytes (key ++ body)) ∙ take-all key body in
    let at_body : s.at + s.key ≡ length (bytes ++ key) = omega (arith, e, k, length-append bytes key) in
    let body_is : take s.body (drop (s.at + s.key) ((bytes ++ key) ++ body)) ≡ body =
    (λ i. take (b i) (drop (at_body i) ((bytes ++ key) ++ body))) ∙ ap (take (length body)) (drop-all (bytes ++ key) body) ∙ take-exact body in
    λ i. record { key = key_is i; body = body_is i; seq = s.seq }

by_test : {X : Type 0} (t : Bool) → (t ≡ true → X) → (t ≡ false → X) → X
by_test true y n = y refl
by_test false y n = n refl

-- the i-th record is that of the i-th slot from the end
pub records-at : (bytes : List ℕ) (ss : List Slot) (i : ℕ) (d : Slot) (e : Record) → i < length ss → slice_index_or (records_of bytes ss) i e ≡ record_of bytes (slice_index_or ss (length ss - 1 - i) d)
records-at bytes [] i d e lt = absurd (omega (arith, lt))
records-at bytes (s ∷ ss) i d e lt =
    let R = records_of bytes ss in let r = record_of bytes s in let n = length ss in let long : length R ≡ n = length-records bytes ss in
    let below : i < suc n = lt in
    by_test (ltb i n)
    (λ t. let in_front : i < n = ltb-true i n t in let at : suc (n - 1 - i) ≡ suc n - 1 - i = omega (arith, in_front) in
    get_or-append R (r ∷ []) e i (omega (arith, in_front, long)) ∙ records-at bytes ss i d e in_front ∙ ap (λ k. record_of bytes (slice_index_or (s ∷ ss) k d)) at)
    (λ t. let last : n ≤ i = ltb-false i n t in let at : 0 ≡ suc n - 1 - i = omega (arith, last, below) in let none : i - length R ≡ 0 = omega (arith, last, below, long) in
    get_or-append_right R (r ∷ []) i e (omega (arith, last, long)) ∙ ap (λ k. slice_index_or (r ∷ []) k e) none ∙ ap (λ k. record_of bytes (slice_index_or (s ∷ ss) k d)) at)

pub records-sorted : (bytes : List ℕ) (ss : List Slot) → IsSortedBy (λ a b. slot_lt bytes b a) ss → IsSortedBy record_lt (records_of bytes ss)
records-sorted bytes ss sorted k d low high =
    let n = length ss in let long : length (records_of bytes ss) ≡ n = length-records bytes ss in
    let z : Slot = record { at = 0; key = 0; body = 0; seq = 0 } in
    let j = n - 1 - (k + 1) in let up : n - 1 - k ≡ j + 1 = omega (arith, high, long) in
    let one = records-at bytes ss (k + 1) z d (omega (arith, high, long)) in
    let two = records-at bytes ss k z d (omega (arith, high, long)) ∙ ap (λ m. record_of bytes (slice_index_or ss m z)) up in
    (λ i. record_lt (one i) (two i)) ∙ sorted j z (omega arith) (omega (arith, high, long))

records-are : (bytes : List ℕ) (ss : List Slot) → records_of bytes ss ≡ reverse (map (record_of bytes) ss)
records-are bytes [] = refl
records-are bytes (s ∷ ss) = ap (λ l. l ++ record_of bytes s ∷ []) (records-are bytes ss) ∙ sym (reverse-cons (record_of bytes s) (map (record_of bytes) ss))

pub records-permuted : (bytes : List ℕ) (ss ts : List Slot) → IsPermutation ss ts → IsPermutation (records_of bytes ss) (records_of bytes ts)
records-permuted bytes ss ts p =
    let f = record_of bytes in let us = map f ss in let vs = map f ts in
    subst (λ l. IsPermutation l (records_of bytes ts)) (sym (records-are bytes ss)) (subst (λ l. IsPermutation (reverse us) l) (sym (records-are bytes ts))
    (IsPermutation-trans _ _ _ (IsPermutation-sym _ _ (IsPermutation-reverse us)) (IsPermutation-trans _ _ _ (IsPermutation-map f ss ts p) (IsPermutation-reverse vs))))

abbrev span : Slot → ℕ
span s = s.key + s.body

named-is : (ss : List Slot) → named ss ≡ sum_by span ss
named-is [] = refl
named-is (s ∷ ss) = ap (λ n. span s + n) (named-is ss) ∙ sym (sum_by-cons span s ss)

pub named-permuted : (ss ts : List Slot) → IsPermutation ss ts → named ts ≡ named ss
named-permuted ss ts p = named-is ts ∙ sum_by-IsPermutation span ss ts p ∙ sym (named-is ss)

pub within-permuted : (n : ℕ) (ss ts : List Slot) → IsPermutation ss ts → AllWithin n ss → AllWithin n ts
within-permuted n ss ts p w =
    let P = λ (s : Slot). s.at + s.key + s.body ≤ n in recursion_from_All P ts (All-permutation P ss ts p (All-from_recursion P ss w))

-- In the order of their steps, a path that begins a later one begins the next.
use Rattle.std.proofs.Common.{◌≡◌, ℕ, suc, ◌+◌, Bool, true, false, List, [], ◌∷◌, get_or, refl, sym, ap, subst, ◌∙◌, arith}
use Rattle.std.specs.Prelude.{◌&&◌, not}
use Rattle.std.specs.List.{list_all}
use Rattle.std.specs.List.Sorted.{IsSortedBy, IsPermutation}
use Rattle.std.specs.Ordering.{is_lt, is_gt, is_eq, ordering_then, ordering_reverse, nat_cmp}
use Rattle.std.specs.Cmp.{IsTotalOrder, IsStrictWeakOrder}
use Rattle.std.specs.Cmp.Lexicographic.{slice_cmp}
use Rattle.std.specs.Str.{bytes_eq}
use Rattle.std.specs.declared.cmp.Ordering.{Ordering}
use Rattle.std.specs.declared.cmp.Ordering.TheVariants.{Less, Equal, Greater}
use Rattle.std.proofs.lemmas.Bool.{and_parts}
use Rattle.std.proofs.lemmas.Cmp.{upto, tied_itself, nat_list_cmp_total, lists_total}
use Rattle.std.proofs.lemmas.Map.Text.{is_eq-slice_cmp}
use Rattle.std.proofs.lemmas.Slice.Eq.{bytes_eq-Decides}
use Rattle.std.proofs.lemmas.List.MinMax.{ranks_by}
use Rattle.std.proofs.lemmas.List.Sorted.{IsPermutation-map}
use Rattle.stage_parts.proofs.Clashes.{apart_permuted}
use Rattle.bson_value.specs.Paths.{Steps}
use Rattle.stage_parts.specs.Paths.{begins, is_apart, are_apart, steps_in, steps_order, are_neighbours_apart}
use denote.Ref.{Bor}

abbrev step_order : List ℕ → List ℕ → Ordering
step_order = slice_cmp nat_cmp

steps_total : IsTotalOrder steps_order
steps_total = lists_total nat_list_cmp_total

-- p is not behind q
abbrev IsUpTo : Steps → Steps → Type 0
IsUpTo p q = is_gt (steps_order p q) ≡ false

turned : (o : Ordering) → o ≡ Less → is_gt (ordering_reverse o) ≡ true
turned Less e = refl
turned Equal e = absurd cc
turned Greater e = absurd cc

no_gt : (o r : Ordering) → o ≡ Greater → is_gt (ordering_then o r) ≡ false → ⊥
no_gt Less r e f = absurd cc
no_gt Equal r e f = absurd cc
no_gt Greater r e f = cc

-- a step between two that are equal is equal to them
step_between : (a b : List ℕ) (r s o : Ordering) → step_order a b ≡ o → is_gt (ordering_then (step_order a b) r) ≡ false → is_gt (ordering_then (step_order b a) s) ≡ false → step_order a b ≡ Equal
step_between a b r s Less e f g = absurd (let h = turned (step_order a b) e in let t = nat_list_cmp_total.antisymm b a in no_gt (step_order b a) s (t ∙ ap ordering_reverse e) g)
step_between a b r s Equal e f g = e
step_between a b r s Greater e f g = absurd (no_gt (step_order a b) r e f)

steps_equal : (a b : List ℕ) → step_order a b ≡ Equal → bytes_eq a b ≡ true
steps_equal a b e = sym (is_eq-slice_cmp a b) ∙ ap is_eq e

rests_up : (a b : List ℕ) (r : Ordering) → step_order a b ≡ Equal → is_gt (ordering_then (step_order a b) r) ≡ false → is_gt r ≡ false
rests_up a b r e f = ap (λ o. is_gt (ordering_then o r)) (sym e) ∙ f

equal_steps : (a b : List ℕ) → bytes_eq a b ≡ true → step_order a b ≡ Equal
equal_steps a b e = subst (λ c. step_order a c ≡ Equal) ((bytes_eq-Decides a b).0 e) (tied_itself nat_list_cmp_total a)

-- what stands between a path and one that it begins, it begins too
begins_between : (p q r : Steps) → IsUpTo p q → IsUpTo q r → begins p r ≡ true → begins p q ≡ true
begins_between [] q r up high h = refl
begins_between (a ∷ p) q [] up high h = absurd cc
begins_between (a ∷ p) [] (c ∷ r) up high h = absurd cc
begins_between (a ∷ p) (b ∷ q) (c ∷ r) up high h =
    let parts = and_parts (bytes_eq a c) (begins p r) h in
    let same = (bytes_eq-Decides a c).0 parts.0 in
    let back : is_gt (ordering_then (step_order b a) (steps_order q r)) ≡ false = subst (λ x. is_gt (ordering_then (step_order b x) (steps_order q r)) ≡ false) (sym same) high in
    let e = step_between a b (steps_order p q) (steps_order q r) (step_order a b) refl up back in
    let f : step_order b a ≡ Equal = nat_list_cmp_total.antisymm b a ∙ ap ordering_reverse e in
    (λ i. steps_equal a b e i && begins_between p q r (rests_up a b (steps_order p q) e up) (rests_up b a (steps_order q r) f back) parts.1 i)

-- a path that begins one before it is equal to it
begins_back : (p q : Steps) → IsUpTo p q → begins q p ≡ true → begins p q ≡ true
begins_back [] q up h = refl
begins_back (a ∷ p) [] up h = absurd cc
begins_back (a ∷ p) (b ∷ q) up h =
    let parts = and_parts (bytes_eq b a) (begins q p) h in
    let e : step_order a b ≡ Equal = nat_list_cmp_total.antisymm a b ∙ ap ordering_reverse (equal_steps b a parts.0) in
    (λ i. steps_equal a b e i && begins_back p q (rests_up a b (steps_order p q) e up) parts.1 i)

not_both : (s t : Bool) → (t ≡ true → s ≡ true) → s ≡ false → (not s && not t) ≡ true
not_both true t f e = absurd cc
not_both false true f e = absurd (let g = f refl in cc)
not_both false false f e = refl

apart_up : (p q : Steps) → IsUpTo p q → begins p q ≡ false → is_apart p q ≡ true
apart_up p q up e = not_both (begins p q) (begins q p) (begins_back p q up) e

-- each isn't behind the next
abbrev IsUpToFirst : Steps → List Steps → Type 0
IsUpToFirst p [] = Unit {0}
IsUpToFirst p (q ∷ qs) = IsUpTo p q

abbrev AreUp : List Steps → Type 0
AreUp [] = Unit {0}
AreUp (p ∷ ps) = IsUpToFirst p ps × AreUp ps

false_from : (s t : Bool) → (t ≡ true → s ≡ true) → s ≡ false → t ≡ false
false_from s true f e = absurd (let g = f refl in cc)
false_from s false f e = refl

-- a path that doesn't begin the next begins no later one
apart_from_all : (p q : Steps) (qs : List Steps) → IsUpTo p q → AreUp (q ∷ qs) → begins p q ≡ false → list_all (is_apart p) (q ∷ qs) ≡ true
apart_from_all p q [] up all e = ap (λ b. b && true) (apart_up p q up e)
apart_from_all p q (r ∷ qs) up all e =
    let next = upto steps_total p q r up all.0 in
    let f = false_from (begins p q) (begins p r) (begins_between p q r up all.0) e in
    (λ i. apart_up p q up e i && apart_from_all p r qs next all.1 f i)

with_next : (b s t : Bool) → (b ≡ false → s ≡ true) → ((b ≡ true) → s ≡ false) → (not b && t) ≡ (s && t)
with_next true s t f g = rw (g refl) refl
with_next false s t f g = rw (f refl) refl

neighbours_up : (ps : List Steps) → AreUp ps → are_neighbours_apart ps ≡ are_apart ps
neighbours_up [] h = refl
neighbours_up (p ∷ []) h = refl
neighbours_up (p ∷ q ∷ qs) h =
    ap (λ b. not (begins p q) && b) (neighbours_up (q ∷ qs) h.1)
    ∙ with_next (begins p q) (list_all (is_apart p) (q ∷ qs)) (are_apart (q ∷ qs)) (apart_from_all p q qs h.0 h.1) (λ e. rw e refl)

not_lt : (o : Ordering) → is_lt (ordering_reverse o) ≡ false → is_gt o ≡ false
not_lt Less e = refl
not_lt Equal e = refl
not_lt Greater e = absurd cc

up_from : (ps : List (Bor Steps)) → IsSortedBy (λ a b. is_lt (steps_order a.now b.now)) ps → AreUp (steps_in ps)
up_from [] h = tt
up_from (p ∷ []) h = (tt, tt)
up_from (p ∷ q ∷ ps) h = (not_lt (steps_order p.now q.now) (ap is_lt (sym (steps_total.antisymm q.now p.now)) ∙ h 0 p (omega arith) (omega arith)), up_from (q ∷ ps) (λ k d low high. let e : suc k + 1 ≡ suc (k + 1) = omega arith in subst (λ (j : ℕ). is_lt (steps_order (get_or (p ∷ q ∷ ps) j d).now (get_or (q ∷ ps) k d).now) ≡ false) e (h (suc k) d (omega arith) (omega arith))))

pub steps_before : IsStrictWeakOrder (λ (a b : Bor Steps). is_lt (steps_order a.now b.now))
steps_before = ranks_by steps_total (λ (p : Bor Steps). p.now)

pub sorted_apart : (old new : List (Bor Steps)) → IsPermutation old new → IsSortedBy (λ a b. is_lt (steps_order a.now b.now)) new → are_neighbours_apart (steps_in new) ≡ are_apart (steps_in old)
sorted_apart old new h k = neighbours_up (steps_in new) (up_from new k) ∙ sym (apart_permuted (steps_in old) (steps_in new) (IsPermutation-map (λ p. p.now) old new h))

-- Paths are apart in whatever order they stand: twice as many clash, each way round, as there are pairs that clash.
use Rattle.std.proofs.Common.{◌≡◌, ℕ, ◌+◌, Bool, true, false, cond, List, [], ◌∷◌, length, refl, sym, ap, ◌∙◌, arith}
use Rattle.std.specs.Prelude.{◌&&◌, not, ◌==◌}
use Rattle.std.specs.List.{list_all, sum_by}
use Rattle.std.specs.List.Sorted.{IsPermutation}
use Rattle.std.proofs.lemmas.List.Folds.{sum_by-zero}
use Rattle.std.proofs.lemmas.List.Sorted.{sum_by-IsPermutation, length_permutation}
use Rattle.std.proofs.lemmas.List.Sums.{sum_by-cons}
use Rattle.std.proofs.lemmas.Slice.Eq.{bytes_eq-Decides}
use Rattle.bson_value.specs.Paths.{Steps}
use Rattle.stage_parts.specs.Paths.{begins, is_apart, are_apart}

abbrev clash : Steps → Steps → ℕ
clash p q = cond (is_apart p q) 0 1

-- the clashes with p, those of each path with each one, and those of each path with the later ones
abbrev clashes : List Steps → Steps → ℕ
clashes ps p = sum_by (clash p) ps

abbrev all_clashes : List Steps → ℕ
all_clashes ps = sum_by (clashes ps) ps

abbrev later_clashes : List Steps → ℕ
later_clashes [] = 0
later_clashes (p ∷ ps) = clashes ps p + later_clashes ps

and_swaps : (a b : Bool) → (a && b) ≡ (b && a)
and_swaps true true = refl
and_swaps true false = refl
and_swaps false true = refl
and_swaps false false = refl

clash_swaps : (p q : Steps) → clash p q ≡ clash q p
clash_swaps p q = ap (λ b. cond b 0 1) (and_swaps (not (begins p q)) (not (begins q p)))

begins_itself : (p : Steps) → begins p p ≡ true
begins_itself [] = refl
begins_itself (s ∷ p) = rw ((bytes_eq-Decides s s).1 refl) (begins_itself p)

clash_itself : (p : Steps) → clash p p ≡ 1
clash_itself p = rw (begins_itself p) refl

-- with one path more, each clashes with that one too
more_clashes : (p : Steps) (ps qs : List Steps) → sum_by (clashes (p ∷ ps)) qs ≡ clashes qs p + sum_by (clashes ps) qs
more_clashes p ps [] = refl
more_clashes p ps (q ∷ qs) =
    let whole = sum_by-cons (clashes (p ∷ ps)) q qs in
    let first = sum_by-cons (clash q) p ps in
    let with_p = sum_by-cons (clash p) q qs in
    let rest = sum_by-cons (clashes ps) q qs in
    let same = clash_swaps q p in
    let more = more_clashes p ps qs in
    omega (arith, whole, first, with_p, rest, same, more)

all_and_later : (ps : List Steps) → all_clashes ps ≡ length ps + (later_clashes ps + later_clashes ps)
all_and_later [] = refl
all_and_later (p ∷ ps) =
    let whole = sum_by-cons (clashes (p ∷ ps)) p ps in
    let first = sum_by-cons (clash p) p ps in
    let itself = clash_itself p in
    let more = more_clashes p ps ps in
    let rest = all_and_later ps in
    omega (arith, whole, first, itself, more, rest)

none_is_0 : (b : Bool) → (cond b 0 1 == 0) ≡ b
none_is_0 true = refl
none_is_0 false = refl

sum_is_0 : (m n : ℕ) → (m + n == 0) ≡ ((m == 0) && (n == 0))
sum_is_0 m n = grind arith

no_clashes : (p : Steps) (ps : List Steps) → (clashes ps p == 0) ≡ list_all (is_apart p) ps
no_clashes p ps = sum_by-zero (clash p) ps ∙ (λ i. list_all (λ q. none_is_0 (is_apart p q) i) ps)

apart_is : (ps : List Steps) → are_apart ps ≡ (later_clashes ps == 0)
apart_is [] = refl
apart_is (p ∷ ps) = (λ i. sym (no_clashes p ps) i && apart_is ps i) ∙ sym (sum_is_0 (clashes ps p) (later_clashes ps))

same_clashes : (ps qs : List Steps) → IsPermutation ps qs → all_clashes ps ≡ all_clashes qs
same_clashes ps qs h = (λ i. sum_by (λ p. sym (sum_by-IsPermutation (clash p) ps qs h) i) ps) ∙ sym (sum_by-IsPermutation (clashes qs) ps qs h)

pub apart_permuted : (ps qs : List Steps) → IsPermutation ps qs → are_apart ps ≡ are_apart qs
apart_permuted ps qs h =
    let long = length_permutation ps qs h in
    let same = same_clashes ps qs h in
    let one = all_and_later ps in
    let other = all_and_later qs in
    let e : later_clashes ps ≡ later_clashes qs = omega (arith, long, same, one, other) in
    apart_is ps ∙ ap (λ n. n == 0) e ∙ sym (apart_is qs)

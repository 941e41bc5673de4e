-- A list whose elements the order tells apart has one list in order. Assumes nothing.
use Rattle.std.proofs.Common.{◌≡◌, ℕ, zero, suc, ◌<◌, ◌≤◌, List, [], ◌∷◌, length, Bool, true, false, refl, sym, subst, ◌∙◌, arith, true≢false}
use Rattle.std.specs.Prelude.{slice_index_or}
use Rattle.std.specs.Cmp.{IsStrictWeakOrder}
use Rattle.std.specs.List.{Contains, IsDistinct}
use Rattle.std.specs.List.Sorted.{IsPermutation, IsSortedBy}
use Rattle.std.proofs.lemmas.List.Elements.{All-from_recursion}
use Rattle.std.proofs.lemmas.List.Sorted.{sorted_far, Contains-permutation, IsPermutation-sym}
use Rattle.std.proofs.lemmas.Map.Keys.{IsDistinct-IsPermutation}

-- no element is less than one before it
abbrev Far : {X : Type 0} → (X → X → Bool) → List X → Type 0
Far {X} lt xs = (i j : ℕ) (d : X) → i ≤ j → j < length xs → lt (slice_index_or xs j d) (slice_index_or xs i d) ≡ false

by_test : {P : Type 0} (t : Bool) → (t ≡ true → P) → (t ≡ false → P) → P
by_test true y n = y refl
by_test false y n = n refl

module _ {X : Type 0} (lt same : X → X → Bool) (tied : (x y : X) → lt x y ≡ false → lt y x ≡ false → same x y ≡ true) where
  later : (x : X) (xs : List X) → Far lt (x ∷ xs) → Far lt xs
  later x xs far i j d le lj = far (suc i) (suc j) d (omega (arith, le)) (omega (arith, lj))

  apart : (x : X) (xs : List X) → IsDistinct same (x ∷ xs) → (z : X) → Contains xs z → same x z ≡ false
  unfolding IsDistinct
  apart x xs d z c = subst (λ w. same x w ≡ false) c.2 (All-from_recursion (λ y. same x y ≡ false) xs d.0 c.0 z c.1)

  others : (x : X) (xs : List X) → IsDistinct same (x ∷ xs) → IsDistinct same xs
  unfolding IsDistinct
  others x xs d = d.1

  first_is : (x y : X) (xs ys : List X) → Far lt (x ∷ xs) → Far lt (y ∷ ys) → IsDistinct same (y ∷ ys)
      → (k : ℕ) → k < length (y ∷ ys) → slice_index_or (y ∷ ys) k x ≡ x → (j : ℕ) → j < length (x ∷ xs) → slice_index_or (x ∷ xs) j y ≡ y → x ≡ y
  first_is x y xs ys fx fy d zero lk is j lj is' = sym is
  first_is x y xs ys fx fy d (suc k) lk is zero lj is' = is'
  first_is x y xs ys fx fy d (suc k) lk is (suc j) lj is' =
      let a : lt x y ≡ false = subst (λ w. lt w y ≡ false) is (fy 0 (suc k) x (omega arith) lk) in
      let b : lt y x ≡ false = subst (λ w. lt w x ≡ false) is' (fx 0 (suc j) y (omega arith) lj) in
      absurd (true≢false (sym (tied y x b a) ∙ apart y ys d x (k, omega (arith, lk), is)))

  rest_in : (x z : X) (xs ys : List X) → lt z z ≡ false → IsDistinct same (x ∷ xs) → Contains xs z
      → (k : ℕ) → k < length (x ∷ ys) → slice_index_or (x ∷ ys) k z ≡ z → Contains ys z
  rest_in x z xs ys z≮z d c zero lk is = absurd (true≢false (sym (tied z z z≮z z≮z) ∙ subst (λ w. same w z ≡ false) is (apart x xs d z c)))
  rest_in x z xs ys z≮z d c (suc k) lk is = (k, omega (arith, lk), is)

  alike : ((x : X) → lt x x ≡ false) → (xs ys : List X) → Far lt xs → Far lt ys → IsDistinct same xs → IsDistinct same ys
      → ((z : X) → Contains xs z → Contains ys z) → ((z : X) → Contains ys z → Contains xs z) → xs ≡ ys
  alike irr [] [] fx fy dx dy to from = refl
  alike irr [] (y ∷ ys) fx fy dx dy to from = let c = from y (0, omega arith, refl) in absurd (omega (arith, c.1))
  alike irr (x ∷ xs) [] fx fy dx dy to from = let c = to x (0, omega arith, refl) in absurd (omega (arith, c.1))
  alike irr (x ∷ xs) (y ∷ ys) fx fy dx dy to from =
      let c = to x (0, omega arith, refl) in let c' = from y (0, omega arith, refl) in
      let e : x ≡ y = first_is x y xs ys fx fy dy c.0 c.1 c.2 c'.0 c'.1 c'.2 in
      let into : (z : X) → Contains xs z → Contains (x ∷ ys) z = λ z h. subst (λ w. Contains (w ∷ ys) z) (sym e) (to z (suc h.0, omega (arith, h.1), h.2)) in
      let back : (z : X) → Contains ys z → Contains (y ∷ xs) z = λ z h. subst (λ w. Contains (w ∷ xs) z) e (from z (suc h.0, omega (arith, h.1), h.2)) in
      let rest = alike irr xs ys (later x xs fx) (later y ys fy) (others x xs dx) (others y ys dy)
      (λ z h. let g = into z h in rest_in x z xs ys (irr z) dx h g.0 g.1 g.2) (λ z h. let g = back z h in rest_in y z ys xs (irr z) dy h g.0 g.1 g.2) in
      λ i. e i ∷ rest i

  irreflexive : IsStrictWeakOrder lt → (x : X) → lt x x ≡ false
  irreflexive o x = by_test (lt x x) (λ t. o.one_way x x t) (λ f. f)

  pub only_order : IsStrictWeakOrder lt → ((x y : X) → same x y ≡ same y x) → (rs xs ys : List X) → IsDistinct same rs
      → IsPermutation rs xs → IsSortedBy lt xs → IsPermutation rs ys → IsSortedBy lt ys → xs ≡ ys
  only_order o flips rs xs ys d px sx py sy =
      let through : (us vs : List X) → IsPermutation rs us → IsPermutation rs vs → (z : X) → Contains us z → Contains vs z =
      λ us vs pu pv z h. Contains-permutation rs vs z pv (Contains-permutation us rs z (IsPermutation-sym rs us pu) h) in
      alike (irreflexive o) xs ys (sorted_far lt o xs sx) (sorted_far lt o ys sy) (IsDistinct-IsPermutation same flips rs xs px d) (IsDistinct-IsPermutation same flips rs ys py d)
      (through xs ys px py) (through ys xs py px)

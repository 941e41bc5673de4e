-- The levels of a `$graphLookup`: each `_id` is on one, so that there are no more of them than documents.
use Rattle.std.proofs.Common.{◌≡◌, ℕ, zero, suc, ◌+◌, ◌-◌, ◌<◌, ◌≤◌, Bool, true, false, cond, List, [], ◌∷◌, ◌++◌, map, length, refl, sym, ap, subst, ◌∙◌, arith, inl, inr, add-one}
use Rattle.std.specs.Prelude.{◌⊎◌, ◌&&◌, ◌||◌, not, Option, Some, None, nat_lt, filter}
use Rattle.std.specs.Cmp.{tied_itself}
use Rattle.std.specs.List.{list_any, flat_map, range_with_len}
use Rattle.std.specs.Ordering.{is_eq}
use Rattle.std.proofs.lemmas.Bool.{lt-ltb, le-ltb}
use Rattle.std.proofs.lemmas.Grind.{flat_map-append}
use Rattle.std.proofs.lemmas.List.{append-nil}
use Rattle.std.proofs.lemmas.List.Folds.{list_any-append}
use Rattle.bson_value.proofs.Total.{order_total}
use Rattle.bson_value.specs.Order.{order}
use Rattle.bson_value.specs.Paths.{Steps, candidates}
use Rattle.bson_value.specs.Tree.{Tree}
use Rattle.expr_tree.specs.QueryNode.{QueryNode}
use Rattle.stage_tree.specs.Outcome.{Fields}
use Rattle.stage_tree.specs.Joining.{whole, is_one_of, is_found, allowed, is_next, id_of, level, levels, with_level, is_last}
use Rattle.stage_laws.specs.Levels.{leads, sought_on, ids_before, AreLevels}

and_true : (b : Bool) → (b && true) ≡ b
and_true true = refl
and_true false = refl

and_false : (b : Bool) → (b && false) ≡ false
and_false true = refl
and_false false = refl

moved : (a s r : Bool) → (not (a || s) && not r) ≡ (not s && not (a || r))
moved true s r = sym (and_false (not s))
moved false s r = refl

-- ---- a document behind others

module _ (belongs : Fields → Bool) where
  abbrev last : List Tree → List Fields → Fields → List Fields
  last seen found e = cond (belongs e && (not (is_one_of seen (id_of e)) && not (is_one_of (map id_of found) (id_of e)))) (e ∷ []) []

  pub takes : (seen : List Tree) (front : List Fields) (e : Fields) → level belongs seen (front ++ e ∷ []) ≡ level belongs seen front ++ last seen (level belongs seen front) e
  takes seen [] e = ap (λ (q : Bool). cond (belongs e && q) (e ∷ []) []) (sym (and_true (not (is_one_of seen (id_of e)))))
  takes seen (x ∷ front) e =
      let more : List Fields = level belongs (id_of x ∷ seen) front in
      let same : List Fields = level belongs seen front in
      elim (belongs x && not (is_one_of seen (id_of x))) as (λ q. cond q (x ∷ level belongs (id_of x ∷ seen) (front ++ e ∷ [])) (level belongs seen (front ++ e ∷ [])) ≡ cond q (x ∷ more) same ++ last seen (cond q (x ∷ more) same) e) [
        | true ↦
            ap (λ (l : List Fields). x ∷ l) (takes (id_of x ∷ seen) front e)
            ∙ ap (λ (q : Bool). x ∷ more ++ cond (belongs e && q) (e ∷ []) []) (moved (is_eq (order (id_of e) (id_of x))) (is_one_of seen (id_of e)) (is_one_of (map id_of more) (id_of e)))
        | false ↦ takes seen front e
      ]

  pub nothing : ((e : Fields) → belongs e ≡ false) → (seen : List Tree) (es : List Fields) → level belongs seen es ≡ []
  nothing none seen [] = refl
  nothing none seen (e ∷ es) = rw (none e) (nothing none seen es)

  -- the first document of a level stands in the list, and its `_id` wasn't seen
  head_at : (seen : List Tree) (es : List Fields) (x : Fields) (rest : List Fields) → level belongs seen es ≡ x ∷ rest → (front : List Fields) × (back : List Fields) × (front ++ x ∷ back ≡ es) × (not (is_one_of seen (id_of x)) ≡ true)
  head_at seen [] x rest e = absurd cc
  head_at seen (d ∷ es) x rest e =
      elim (belongs d) as (λ a. cond (a && not (is_one_of seen (id_of d))) (d ∷ level belongs (id_of d ∷ seen) es) (level belongs seen es) ≡ x ∷ rest → (front : List Fields) × (back : List Fields) × (front ++ x ∷ back ≡ d ∷ es) × (not (is_one_of seen (id_of x)) ≡ true)) [
        | true ↦ elim (not (is_one_of seen (id_of d))) as (λ b. not (is_one_of seen (id_of d)) ≡ b → cond b (d ∷ level belongs (id_of d ∷ seen) es) (level belongs seen es) ≡ x ∷ rest → (front : List Fields) × (back : List Fields) × (front ++ x ∷ back ≡ d ∷ es) × (not (is_one_of seen (id_of x)) ≡ true)) [
          | true ↦ λ g f. let same : d ≡ x = cc in ([], es, (λ i. sym same i ∷ es), ap (λ (c : Fields). not (is_one_of seen (id_of c))) (sym same) ∙ g)
          | false ↦ λ g f. let r = head_at seen es x rest f in (d ∷ r.0, r.1, (λ i. d ∷ r.2 i), r.3)
        ] refl
        | false ↦ λ f. let r = head_at seen es x rest f in (d ∷ r.0, r.1, (λ i. d ∷ r.2 i), r.3)
      ] e

-- ---- fewer pass a stronger test

module _ {X : Type 0} where
  le_step : (a b : Bool) → (a ≡ true → b ≡ true) → (x : X) (us vs : List X) → length us ≤ length vs → length (cond a (x ∷ us) us) ≤ length (cond b (x ∷ vs) vs)
  le_step true true f x us vs h = omega (arith, h)
  le_step true false f x us vs h = absurd (let e : false ≡ true = f refl in cc)
  le_step false true f x us vs h = omega (arith, h)
  le_step false false f x us vs h = h

  lt_step : (a b : Bool) → (a ≡ true → b ≡ true) → (x : X) (us vs : List X) → length us < length vs → length (cond a (x ∷ us) us) < length (cond b (x ∷ vs) vs)
  lt_step true true f x us vs h = omega (arith, h)
  lt_step true false f x us vs h = absurd (let e : false ≡ true = f refl in cc)
  lt_step false true f x us vs h = omega (arith, h)
  lt_step false false f x us vs h = h

  at_most : (p : X → Bool) (xs : List X) → length (filter p xs) ≤ length xs
  at_most p [] = omega arith
  at_most p (x ∷ xs) = le_step (p x) true (λ e. refl) x (filter p xs) xs (at_most p xs)

  module _ (p q : X → Bool) (stronger : (x : X) → q x ≡ true → p x ≡ true) where
    no_more : (xs : List X) → length (filter q xs) ≤ length (filter p xs)
    no_more [] = omega arith
    no_more (x ∷ xs) = le_step (q x) (p x) (stronger x) x (filter q xs) (filter p xs) (no_more xs)

    fewer : (front : List X) (x : X) (back : List X) → p x ≡ true → q x ≡ false → length (filter q (front ++ x ∷ back)) < length (filter p (front ++ x ∷ back))
    fewer [] x back e f = rw (e, f) (omega (arith, no_more back))
    fewer (y ∷ front) x back e f = lt_step (q y) (p y) (stronger y) y (filter q (front ++ x ∷ back)) (filter p (front ++ x ∷ back)) (fewer front x back e f)

abbrev new : List Tree → Fields → Bool
new seen e = not (is_one_of seen (id_of e))

abbrev unseen : List Tree → List Fields → ℕ
unseen seen es = length (filter (new seen) es)

right_new : (a b : Bool) → not (a || b) ≡ true → not b ≡ true
right_new true b e = absurd cc
right_new false b e = e

still_new : (ids seen : List Tree) (e : Fields) → new (ids ++ seen) e ≡ true → new seen e ≡ true
still_new ids seen e h = right_new (is_one_of ids (id_of e)) (is_one_of seen (id_of e)) (ap not (sym (list_any-append (λ v. is_eq (order (id_of e) v)) ids seen)) ∙ h)

own_id : (x : Fields) (seen : List Tree) → new (id_of x ∷ seen) x ≡ false
own_id x seen = ap (λ o. not (is_eq o || is_one_of seen (id_of x))) (tied_itself order_total (id_of x))

none_found : (cs : List (Option Tree)) → list_any (is_found []) cs ≡ false
none_found [] = refl
none_found (None ∷ cs) = none_found cs
none_found (Some t ∷ cs) = none_found cs

-- ---- the levels

-- so many of the first as of the second, at most
abbrev upto : ℕ → ℕ → ℕ
upto zero k = zero
upto (suc n) zero = zero
upto (suc n) (suc k) = suc (upto n k)

upto_is : (n k : ℕ) → (upto n k ≡ k) ⊎ ((upto n k ≡ n) × (n ≤ k))
upto_is zero k = inr (refl, omega arith)
upto_is (suc n) zero = inl refl
upto_is (suc n) (suc k) =
    elim (upto_is n k) [
      | inl h ↦ inl (ap suc h)
      | inr h ↦ inr (ap suc h.0, omega (arith, h.1))
    ]

upto_none : (n : ℕ) → upto n zero ≡ zero
upto_none zero = refl
upto_none (suc n) = refl

range_joined : (a n k : ℕ) → range_with_len a (n + k) ≡ range_with_len a n ++ range_with_len (a + n) k
range_joined a zero k = let e : 0 + k ≡ k = omega arith in let f : a ≡ a + 0 = omega arith in ap (range_with_len a) e ∙ ap (λ (b : ℕ). range_with_len b k) f
range_joined a (suc n) k =
    let e : suc n + k ≡ suc (n + k) = omega arith in
    let f : a + 1 + n ≡ a + suc n = omega arith in
    ap (range_with_len a) e ∙ ap (λ (l : List ℕ). a ∷ l) (range_joined (a + 1) n k ∙ ap (λ (b : ℕ). range_with_len (a + 1) n ++ range_with_len b k) f)

module _ (others : List Fields) (restrict : Option QueryNode) (from field : Steps) (start : List Tree) where
  none_sought : (e : Fields) → is_next restrict field [] e ≡ false
  none_sought e = ap (λ (b : Bool). allowed restrict e && b) (none_found (candidates field (whole e))) ∙ and_false (allowed restrict e)

  abbrev next : List Tree × List Tree → List Fields
  next s = level (is_next restrict field s.0) s.1 others

  abbrev state : ℕ → List Tree × List Tree
  state zero = (start, [])
  state (suc n) = (leads from (next (state n)), map id_of (next (state n)) ++ (state n).1)

  abbrev on_level : ℕ → List Fields
  on_level n = next (state n)

  sought_is : (n : ℕ) → sought_on from start on_level n ≡ (state n).0
  sought_is zero = refl
  sought_is (suc n) = refl

  ids_are : (n : ℕ) → ids_before on_level n ≡ (state n).1
  ids_are zero = refl
  ids_are (suc n) = ap (λ (l : List Tree). map id_of (on_level n) ++ l) (ids_are n)

  pub there_are : (on : ℕ → List Fields) × AreLevels others restrict from field start on
  there_are = (on_level, λ n. λ i. level (is_next restrict field (sym (sought_is n) i)) (sym (ids_are n) i) others)

  module _ (on : ℕ → List Fields) (are : AreLevels others restrict from field start on) where
    abbrev left : ℕ → ℕ
    left n = unseen (ids_before on n) others

    -- a level with a document leaves fewer
    falls : (n : ℕ) (ds : List Fields) → on n ≡ ds → (on n ≡ []) ⊎ (left (suc n) < left n)
    falls n [] e = inl e
    falls n (x ∷ ds) e =
        let r = head_at (is_next restrict field (sought_on from start on n)) (ids_before on n) others x ds (sym (are n) ∙ e) in
        let seen : new (ids_before on (suc n)) x ≡ false = ap (λ (l : List Fields). new (map id_of l ++ ids_before on n) x) e ∙ own_id x (map id_of ds ++ ids_before on n) in
        inr (subst (λ (es : List Fields). unseen (ids_before on (suc n)) es < unseen (ids_before on n) es) r.2 (fewer (new (ids_before on n)) (new (ids_before on (suc n))) (still_new (map id_of (on n)) (ids_before on n)) r.0 x r.1 r.3 seen))

    behind : (n : ℕ) → left n + n ≤ length others → (on n ≡ []) ⊎ (left (suc n) + suc n ≤ length others)
    behind n h =
        elim (falls n (on n) refl) [
          | inl e ↦ inl e
          | inr l ↦ inr (omega (arith, h, l))
        ]

    next_empty : (n : ℕ) → on n ≡ [] → on (suc n) ≡ []
    next_empty n e =
        are (suc n)
        ∙ ap (λ (l : List Fields). level (is_next restrict field (leads from l)) (ids_before on (suc n)) others) e
        ∙ nothing (is_next restrict field []) none_sought (ids_before on (suc n)) others

    spent : (n : ℕ) → (on n ≡ []) ⊎ (left (suc n) + suc n ≤ length others)
    spent zero = behind zero (omega (arith, at_most (new []) others))
    spent (suc n) =
        elim (spent n) [
          | inl e ↦ inl (next_empty n e)
          | inr h ↦ behind (suc n) h
        ]

    pub ended : (n : ℕ) → length others ≤ n → on n ≡ []
    ended n le =
        elim (spent n) [
          | inl e ↦ e
          | inr h ↦ absurd (omega (arith, h, le))
        ]

    module _ (depth : Option Steps) where
      abbrev shown : ℕ → List Fields
      shown n = map (with_level depth n) (on n)

      abbrev from_to : ℕ → ℕ → List Fields
      from_to n k = flat_map shown (range_with_len n k)

      nothing_shown : (k n : ℕ) → length others ≤ n → from_to n k ≡ []
      nothing_shown zero n le = refl
      nothing_shown (suc k) n le = ap (λ (l : List Fields). map (with_level depth n) l ++ from_to (n + 1) k) (ended n le) ∙ nothing_shown k (n + 1) (omega (arith, le))

      enough : (k : ℕ) → length others ≤ k → from_to 0 k ≡ from_to 0 (length others)
      enough k le =
          let e : k ≡ length others + (k - length others) = omega (arith, le) in
          ap (from_to 0) e
          ∙ ap (flat_map shown) (range_joined 0 (length others) (k - length others))
          ∙ flat_map-append shown (range_with_len 0 (length others)) (range_with_len (0 + length others) (k - length others))
          ∙ ap (λ (l : List Fields). from_to 0 (length others) ++ l) (nothing_shown (k - length others) (0 + length others) (omega arith))
          ∙ append-nil (from_to 0 (length others))

      abbrev walk : Option ℕ → ℕ → ℕ → List Fields
      walk most fuel n = levels fuel others restrict from field most depth n (sought_on from start on n) (ids_before on n)

      one_level : (most : Option ℕ) (fuel n : ℕ) → walk most (suc fuel) n ≡ shown n ++ cond (is_last most n) [] (walk most fuel (suc n))
      one_level most fuel n = ap (λ (found : List Fields). map (with_level depth n) found ++ cond (is_last most n) [] (levels fuel others restrict from field most depth (suc n) (leads from found) (map id_of found ++ ids_before on n))) (sym (are n))

      all_levels : (fuel n : ℕ) → walk None fuel n ≡ from_to n fuel
      all_levels zero n = refl
      all_levels (suc fuel) n = one_level None fuel n ∙ ap (λ (l : List Fields). shown n ++ l) (all_levels fuel (suc n) ∙ ap (λ (m : ℕ). from_to m fuel) (sym (add-one n)))

      few_levels : (most fuel n k : ℕ) → n + k ≡ most → walk (Some most) fuel n ≡ from_to n (upto fuel (suc k))
      few_levels most zero n k e = refl
      few_levels most (suc fuel) n zero e =
          let last : nat_lt n most ≡ false = le-ltb n most (omega (arith, e)) in
          let none : upto fuel zero ≡ zero = upto_none fuel in
          one_level (Some most) fuel n ∙ ap (λ (b : Bool). shown n ++ cond (not b) [] (walk (Some most) fuel (suc n))) last ∙ ap (λ (j : ℕ). shown n ++ from_to (n + 1) j) (sym none)
      few_levels most (suc fuel) n (suc k) e =
          let more : nat_lt n most ≡ true = lt-ltb n most (omega (arith, e)) in
          one_level (Some most) fuel n
          ∙ ap (λ (b : Bool). shown n ++ cond (not b) [] (walk (Some most) fuel (suc n))) more
          ∙ ap (λ (l : List Fields). shown n ++ l) (few_levels most fuel (suc n) k (omega (arith, e)) ∙ ap (λ (m : ℕ). from_to m (upto fuel (suc k))) (sym (add-one n)))

      pub all_found : (count : ℕ) → length others ≤ count → walk None (suc (length others)) 0 ≡ from_to 0 count
      all_found count le = all_levels (suc (length others)) 0 ∙ enough (suc (length others)) (omega arith) ∙ sym (enough count le)

      pub most_found : (most : ℕ) → walk (Some most) (suc (length others)) 0 ≡ from_to 0 (suc most)
      most_found most =
          few_levels most (suc (length others)) 0 most (omega arith)
          ∙ elim (upto_is (suc (length others)) (suc most)) [
            | inl h ↦ ap (from_to 0) h
            | inr h ↦ ap (from_to 0) h.0 ∙ enough (suc (length others)) (omega arith) ∙ sym (enough (suc most) (omega (arith, h.1)))
          ]

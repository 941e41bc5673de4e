-- What was taken, against what waits and what was given: of the items that pass a test, shard by shard.
use Rattle.std.proofs.Common.{◌≡◌, ℕ, zero, suc, Bool, List, [], ◌∷◌, ◌++◌, refl, sym, ap, subst, ◌∙◌, inl, inr, append_assoc, append-nil}
use Rattle.std.specs.Prelude.{◌⊎◌, Some, slice_get, slice_set, filter, flat_map}
use Rattle.std.proofs.lemmas.List.Elements.{filter-append}
use Rattle.merge_cursor.specs.declared.item.Keyed.{Keyed}
use Rattle.merge_cursor.specs.declared.shards.Shard.{Shard}
use Rattle.merge_cursor.specs.Laws.{add_to}
use Rattle.merge_cursor.specs.Whole.{joined}

-- all that waits, shard by shard
abbrev pub all_waiting : List Shard → List Keyed
all_waiting = flat_map (λ s. s.waiting)

pub some_is : {A : Type 0} (x y : A) → Some x ≡ Some y → x ≡ y
some_is x y e = cc

-- nothing of them was taken
abbrev pub Untouched : (Keyed → Bool) → List Shard → List (List Keyed) → Type 0
Untouched P [] [] = Unit {0}
Untouched P [] (l ∷ ls) = ⊥
Untouched P (s ∷ ss) [] = ⊥
Untouched P (s ∷ ss) (l ∷ ls) = (filter P s.waiting ≡ filter P l) × Untouched P ss ls

-- of a shard that is past, tk begins with the whole list, and C says that no more will come
abbrev pub Aligned : (Keyed → Bool) → (Shard → List Keyed → Type 0) → List Keyed → List Shard → List (List Keyed) → Type 0
Aligned P C tk [] [] = tk ≡ []
Aligned P C tk [] (l ∷ ls) = ⊥
Aligned P C tk (s ∷ ss) [] = ⊥
Aligned P C tk (s ∷ ss) (l ∷ ls) =
    ((tk ++ filter P s.waiting ≡ filter P l) × Untouched P ss ls)
    ⊎ ((rest : List Keyed) × C s l × (filter P s.waiting ≡ []) × (tk ≡ filter P l ++ rest) × Aligned P C rest ss ls)

-- the shards before the i-th are past
abbrev pub Before : (Keyed → Bool) → (Shard → List Keyed → Type 0) → ℕ → List Shard → List (List Keyed) → Type 0
Before P C zero ss ls = Unit {0}
Before P C (suc i) [] ls = Unit {0}
Before P C (suc i) (s ∷ ss) [] = ⊥
Before P C (suc i) (s ∷ ss) (l ∷ ls) = C s l × (filter P s.waiting ≡ []) × Before P C i ss ls

module _ (P : Keyed → Bool) where
  pub untouched_joined : (ss : List Shard) (ls : List (List Keyed)) → Untouched P ss ls → filter P (all_waiting ss) ≡ filter P (joined ls)
  untouched_joined [] [] u = refl
  untouched_joined [] (l ∷ ls) u = absurd u
  untouched_joined (s ∷ ss) [] u = absurd u
  untouched_joined (s ∷ ss) (l ∷ ls) u =
      rw (filter-append P s.waiting (all_waiting ss), filter-append P l (joined ls), u.0, untouched_joined ss ls u.1) refl

  pub untouched_marked : (ss : List Shard) (ls : List (List Keyed)) (i : ℕ) (s t : Shard) → slice_get ss i ≡ Some s → filter P t.waiting ≡ filter P s.waiting → Untouched P ss ls → Untouched P (slice_set ss i t) ls
  untouched_marked [] ls i s t at e u = u
  untouched_marked (r ∷ ss) [] i s t at e u = absurd u
  untouched_marked (r ∷ ss) (l ∷ ls) zero s t at e u = (e ∙ ap (λ (q : Shard). filter P q.waiting) (sym (some_is r s at)) ∙ u.0, u.1)
  untouched_marked (r ∷ ss) (l ∷ ls) (suc i) s t at e u = (u.0, untouched_marked ss ls i s t at e u.1)

  pub untouched_arrives : (ss : List Shard) (ls : List (List Keyed)) (i : ℕ) (s t : Shard) → slice_get ss i ≡ Some s → filter P s.waiting ≡ [] → Untouched P ss ls → Untouched P (slice_set ss i t) (add_to ls i t.waiting)
  untouched_arrives [] [] i s t at e u = tt
  untouched_arrives [] (l ∷ ls) i s t at e u = absurd u
  untouched_arrives (r ∷ ss) [] i s t at e u = absurd u
  untouched_arrives (r ∷ ss) (l ∷ ls) zero s t at e u =
      let none : filter P l ≡ [] = sym u.0 ∙ ap (λ (q : Shard). filter P q.waiting) (some_is r s at) ∙ e in
      (sym (filter-append P l t.waiting ∙ ap (λ (ys : List Keyed). ys ++ filter P t.waiting) none), u.1)
  untouched_arrives (r ∷ ss) (l ∷ ls) (suc i) s t at e u = (u.0, untouched_arrives ss ls i s t at e u.1)

module _ (P : Keyed → Bool) (C : Shard → List Keyed → Type 0) where
  pub aligned_joined : (tk : List Keyed) (ss : List Shard) (ls : List (List Keyed)) → Aligned P C tk ss ls → tk ++ filter P (all_waiting ss) ≡ filter P (joined ls)
  aligned_joined tk [] [] a = rw a refl
  aligned_joined tk [] (l ∷ ls) a = absurd a
  aligned_joined tk (s ∷ ss) [] a = absurd a
  aligned_joined tk (s ∷ ss) (l ∷ ls) (inl u) =
      rw (filter-append P s.waiting (all_waiting ss), filter-append P l (joined ls), ← u.0, ← untouched_joined P ss ls u.1) (sym (append_assoc tk (filter P s.waiting) (filter P (all_waiting ss))))
  aligned_joined tk (s ∷ ss) (l ∷ ls) (inr p) =
      rw (filter-append P s.waiting (all_waiting ss), filter-append P l (joined ls), p.2, p.3, ← aligned_joined p.0 ss ls p.4) (append_assoc (filter P l) p.0 (filter P (all_waiting ss)))

  pub untouched_aligned : (ss : List Shard) (ls : List (List Keyed)) → Untouched P ss ls → Aligned P C [] ss ls
  untouched_aligned [] [] u = refl
  untouched_aligned [] (l ∷ ls) u = absurd u
  untouched_aligned (s ∷ ss) [] u = absurd u
  untouched_aligned (s ∷ ss) (l ∷ ls) u = inl u

  -- a change of a shard that keeps what waits
  pub aligned_marked : (tk : List Keyed) (ss : List Shard) (ls : List (List Keyed)) (i : ℕ) (s t : Shard) → slice_get ss i ≡ Some s → filter P t.waiting ≡ filter P s.waiting → ((l : List Keyed) → slice_get ls i ≡ Some l → C s l → C t l) → Aligned P C tk ss ls → Aligned P C tk (slice_set ss i t) ls
  aligned_marked tk [] ls i s t at e c a = a
  aligned_marked tk (r ∷ ss) [] i s t at e c a = absurd a
  aligned_marked tk (r ∷ ss) (l ∷ ls) zero s t at e c (inl u) =
      inl (ap (λ (ys : List Keyed). tk ++ ys) (e ∙ ap (λ (q : Shard). filter P q.waiting) (sym (some_is r s at))) ∙ u.0, u.1)
  aligned_marked tk (r ∷ ss) (l ∷ ls) zero s t at e c (inr p) =
      inr (p.0, c l refl (subst (λ (q : Shard). C q l) (some_is r s at) p.1), e ∙ ap (λ (q : Shard). filter P q.waiting) (sym (some_is r s at)) ∙ p.2, p.3, p.4)
  aligned_marked tk (r ∷ ss) (l ∷ ls) (suc i) s t at e c (inl u) = inl (u.0, untouched_marked P ss ls i s t at e u.1)
  aligned_marked tk (r ∷ ss) (l ∷ ls) (suc i) s t at e c (inr p) =
      inr (p.0, p.1, p.2, p.3, aligned_marked p.0 ss ls i s t at e c p.4)

  -- a batch arrives where nothing waits; of a past shard nothing passes
  pub aligned_arrives : (tk : List Keyed) (ss : List Shard) (ls : List (List Keyed)) (i : ℕ) (s t : Shard) → slice_get ss i ≡ Some s → filter P s.waiting ≡ [] → ((l : List Keyed) → slice_get ls i ≡ Some l → C s l → C t (l ++ t.waiting) × (filter P t.waiting ≡ [])) → Aligned P C tk ss ls → Aligned P C tk (slice_set ss i t) (add_to ls i t.waiting)
  aligned_arrives tk [] [] i s t at e c a = a
  aligned_arrives tk [] (l ∷ ls) i s t at e c a = absurd a
  aligned_arrives tk (r ∷ ss) [] i s t at e c a = absurd a
  aligned_arrives tk (r ∷ ss) (l ∷ ls) zero s t at e c (inl u) =
      let none : filter P r.waiting ≡ [] = ap (λ (q : Shard). filter P q.waiting) (some_is r s at) ∙ e in
      let all : tk ≡ filter P l = sym (append-nil tk) ∙ ap (λ (ys : List Keyed). tk ++ ys) (sym none) ∙ u.0 in
      inl (sym (filter-append P l t.waiting ∙ ap (λ (ys : List Keyed). ys ++ filter P t.waiting) (sym all)), u.1)
  aligned_arrives tk (r ∷ ss) (l ∷ ls) zero s t at e c (inr p) =
      let h : C t (l ++ t.waiting) × (filter P t.waiting ≡ []) = c l refl (subst (λ (q : Shard). C q l) (some_is r s at) p.1) in
      let same : filter P (l ++ t.waiting) ≡ filter P l = filter-append P l t.waiting ∙ ap (λ (ys : List Keyed). filter P l ++ ys) h.1 ∙ append-nil (filter P l) in
      inr (p.0, h.0, h.1, p.3 ∙ ap (λ (ys : List Keyed). ys ++ p.0) (sym same), p.4)
  aligned_arrives tk (r ∷ ss) (l ∷ ls) (suc i) s t at e c (inl u) = inl (u.0, untouched_arrives P ss ls i s t at e u.1)
  aligned_arrives tk (r ∷ ss) (l ∷ ls) (suc i) s t at e c (inr p) =
      inr (p.0, p.1, p.2, p.3, aligned_arrives p.0 ss ls i s t at e c p.4)

  -- x, which passes, is taken from the i-th shard, where those before are past
  pub aligned_takes : (tk : List Keyed) (ss : List Shard) (ls : List (List Keyed)) (i : ℕ) (s t : Shard) (x : Keyed) → slice_get ss i ≡ Some s → filter P s.waiting ≡ x ∷ filter P t.waiting → Before P C i ss ls → Aligned P C tk ss ls → Aligned P C (tk ++ x ∷ []) (slice_set ss i t) ls
  aligned_takes tk [] ls i s t x at e b a = absurd cc
  aligned_takes tk (r ∷ ss) [] i s t x at e b a = absurd a
  aligned_takes tk (r ∷ ss) (l ∷ ls) zero s t x at e b (inl u) =
      let front : filter P r.waiting ≡ x ∷ filter P t.waiting = ap (λ (q : Shard). filter P q.waiting) (some_is r s at) ∙ e in
      inl (append_assoc tk (x ∷ []) (filter P t.waiting) ∙ ap (λ (ys : List Keyed). tk ++ ys) (sym front) ∙ u.0, u.1)
  aligned_takes tk (r ∷ ss) (l ∷ ls) zero s t x at e b (inr p) =
      let front : filter P r.waiting ≡ x ∷ filter P t.waiting = ap (λ (q : Shard). filter P q.waiting) (some_is r s at) ∙ e in
      let none : filter P r.waiting ≡ [] = p.2 in
      absurd cc
  aligned_takes tk (r ∷ ss) (l ∷ ls) (suc i) s t x at e b (inl u) =
      let all : tk ≡ filter P l = sym (append-nil tk) ∙ ap (λ (ys : List Keyed). tk ++ ys) (sym b.1) ∙ u.0 in
      inr (x ∷ [], b.0, b.1, ap (λ (ys : List Keyed). ys ++ x ∷ []) all, aligned_takes [] ss ls i s t x at e b.2 (untouched_aligned ss ls u.1))
  aligned_takes tk (r ∷ ss) (l ∷ ls) (suc i) s t x at e b (inr p) =
      inr (p.0 ++ x ∷ [], p.1, p.2, ap (λ (ys : List Keyed). ys ++ x ∷ []) p.3 ∙ append_assoc (filter P l) p.0 (x ∷ []), aligned_takes p.0 ss ls i s t x at e b.2 p.4)

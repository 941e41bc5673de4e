-- By key: what was taken is the beginning of the lists in order of keys.
use Rattle.std.proofs.Common.{◌≡◌, ℕ, zero, suc, ◌+◌, Bool, true, false, cond, List, [], ◌∷◌, ◌++◌, length, refl, sym, ap, subst, ◌∙◌, inl, inr, arith, append_assoc, append-nil}
use Rattle.std.specs.Prelude.{◌⊎◌, Some, slice_get, slice_set, filter}
use Rattle.std.specs.List.{AllWithin, AllByRecursion}
use Rattle.std.specs.List.Sorted.{ties}
use Rattle.std.specs.Cmp.{IsStrictWeakOrder}
use Rattle.std.proofs.lemmas.List.Elements.{filter-append, recursion_from_All}
use Rattle.merge_cursor.specs.declared.item.Keyed.{Keyed}
use Rattle.merge_cursor.specs.declared.shards.Shard.{Shard}
use Rattle.merge_cursor.specs.declared.shards.Progress.{Progress}
use Rattle.merge_cursor.specs.declared.shards.Progress.TheVariants.{Answered}
use Rattle.merge_cursor.specs.Shards.{is_over, Follows, NotBefore}
use Rattle.merge_cursor.specs.Laws.{add_to}
use Rattle.merge_cursor.specs.Whole.{joined, ordered_by}
use Rattle.merge_cursor.proofs.Aligned.{Aligned, Before, all_waiting, aligned_joined, aligned_marked, aligned_arrives, aligned_takes}
use Rattle.merge_cursor.proofs.Pairs.{Each, each_weaker, each_with, each_shard, each_set, each_add, each_at, each_waiting, at_added}
use Rattle.merge_cursor.proofs.Ordered.{SomeOf, Low, Rising, all_weaker, all_append, some_front, some_back, none_pass, not_self, before_tied, before_later, before_differs, low_chain, ordered_all, ordered_rising, ordered_filter, rising_same, rising_append, rising_back, reach_low, reach_before}

module _ (lt : Keyed → Keyed → Bool) (o : IsStrictWeakOrder lt) where
  -- no more of z's key will come of it
  abbrev pub ClosedAt : Keyed → Shard → List Keyed → Type 0
  ClosedAt z s l = (is_over s.progress ≡ true) ⊎ SomeOf (λ y. lt z y ≡ true) l

  -- what may still come of it is not before t
  abbrev pub Reaches : Shard → List Keyed → Keyed → Type 0
  Reaches s l t = (is_over s.progress ≡ true) ⊎ SomeOf (λ y. lt y t ≡ false) l

  -- what waits is the end of the list, and nothing that waits or may come is before what was taken
  pub record IsBehind (tk : List Keyed) (s : Shard) (l : List Keyed) : Type 0 where
    pub gone : List Keyed
    pub back : l ≡ gone ++ s.waiting
    pub low : AllByRecursion (λ t. Low lt o t s.waiting) tk
    pub reach : AllByRecursion (λ t. Reaches s l t) tk

  pub record IsMerging (ss : List Shard) (ls : List (List Keyed)) (tk : List Keyed) : Type 0 where
    pub rising : Rising lt o tk
    pub behind : Each (IsBehind tk) ss ls
    pub aligned : (z : Keyed) → Aligned (ties lt z) (ClosedAt z) (filter (ties lt z) tk) ss ls

  -- nothing that waits is before what was taken
  all_low : (tk : List Keyed) (ss : List Shard) (ls : List (List Keyed)) → Each (λ s l. AllByRecursion (λ t. Low lt o t s.waiting) tk) ss ls → AllByRecursion (λ t. Low lt o t (ordered_by lt (all_waiting ss))) tk
  all_low [] ss ls h = tt
  all_low (t ∷ tk) ss ls h = (
    ordered_all lt o (λ y. lt y t ≡ false) (all_waiting ss) (each_waiting (λ y. lt y t ≡ false) ss ls (each_weaker (λ s l. AllByRecursion (λ t. Low lt o t s.waiting) (t ∷ tk)) (λ s l. Low lt o t s.waiting) (λ s l k. k.0) ss ls h)),
    all_low tk ss ls (each_weaker (λ s l. AllByRecursion (λ t. Low lt o t s.waiting) (t ∷ tk)) (λ s l. AllByRecursion (λ t. Low lt o t s.waiting) tk) (λ s l k. k.1) ss ls h),
  )

  -- the whole: what was taken, and then what waits, in order
  pub merging_whole : (ss : List Shard) (ls : List (List Keyed)) (tk : List Keyed) → IsMerging ss ls tk → tk ++ ordered_by lt (all_waiting ss) ≡ ordered_by lt (joined ls)
  merging_whole ss ls tk m =
      rising_same lt o (tk ++ ordered_by lt (all_waiting ss)) (ordered_by lt (joined ls))
      (rising_append lt o tk (ordered_by lt (all_waiting ss)) m.rising (ordered_rising lt o (all_waiting ss)) (all_low tk ss ls (each_weaker (IsBehind tk) (λ s l. AllByRecursion (λ t. Low lt o t s.waiting) tk) (λ s l h. h.low) ss ls m.behind)))
      (ordered_rising lt o (joined ls))
      (λ z. filter-append (ties lt z) tk (ordered_by lt (all_waiting ss)) ∙ ap (λ (ys : List Keyed). filter (ties lt z) tk ++ ys) (ordered_filter lt o z (all_waiting ss)) ∙ aligned_joined (ties lt z) (ClosedAt z) (filter (ties lt z) tk) ss ls (m.aligned z) ∙ sym (ordered_filter lt o z (joined ls)))

  reach_marked : (s : Shard) (p : Progress) (l : List Keyed) (t : Keyed) → (is_over s.progress ≡ true → is_over p ≡ true) → Reaches s l t → Reaches (record { waiting = s.waiting; progress = p }) l t
  reach_marked s p l t f (inl h) = inl (f h)
  reach_marked s p l t f (inr h) = inr h

  closed_marked : (z : Keyed) (s : Shard) (p : Progress) (l : List Keyed) → (is_over s.progress ≡ true → is_over p ≡ true) → ClosedAt z s l → ClosedAt z (record { waiting = s.waiting; progress = p }) l
  closed_marked z s p l f (inl h) = inl (f h)
  closed_marked z s p l f (inr h) = inr h

  reach_some : (s : Shard) (l : List Keyed) (t : Keyed) → (is_over s.progress ≡ true → ⊥) → Reaches s l t → SomeOf (λ y. lt y t ≡ false) l
  reach_some s l t f (inl h) = absurd (f h)
  reach_some s l t f (inr h) = h

  closed_some : (z : Keyed) (s : Shard) (l : List Keyed) → (is_over s.progress ≡ true → ⊥) → ClosedAt z s l → SomeOf (λ y. lt z y ≡ true) l
  closed_some z s l f (inl h) = absurd (f h)
  closed_some z s l f (inr h) = h

  follows_not : (x : Keyed) (ws : List Keyed) (p : Progress) → Follows lt x ws p → NotBefore lt x ws p
  follows_not x [] p h = h
  follows_not x (y ∷ ys) p h = o.one_way x y h

  same_shard : (r s : Shard) → Some r ≡ Some s → r ≡ s
  same_shard r s e = cc

  front_itself : (x : Keyed) (ws rest : List Keyed) (p : Progress) → ws ≡ x ∷ rest → NotBefore lt x ws p
  front_itself x [] rest p e = absurd cc
  front_itself x (y ∷ ys) rest p e = let same : y ≡ x = cc in subst (λ (w : Keyed). lt w x ≡ false) (sym same) (not_self lt o x)

  -- no front is before x
  all_fronts : (x : Keyed) (ss : List Shard) (i : ℕ) (s : Shard) (rest : List Keyed) → slice_get ss i ≡ Some s → s.waiting ≡ x ∷ rest → AllWithin (λ s. Follows lt x s.waiting s.progress) ss 0 i → AllWithin (λ s. NotBefore lt x s.waiting s.progress) ss (i + 1) (length ss) → AllByRecursion (λ s. NotBefore lt x s.waiting s.progress) ss
  all_fronts x [] i s rest at e before after = tt
  all_fronts x (r ∷ ss) zero s rest at e before after = (
    front_itself x r.waiting rest r.progress (ap (λ (q : Shard). q.waiting) (same_shard r s at) ∙ e),
    recursion_from_All (λ s. NotBefore lt x s.waiting s.progress) ss (λ k d high. after (suc k) d (omega arith) (omega arith)),
  )
  all_fronts x (r ∷ ss) (suc i) s rest at e before after = (
    follows_not x r.waiting r.progress (before 0 r (omega arith) (omega arith)),
    all_fronts x ss i s rest at e (λ k d low high. before (suc k) d (omega arith) (omega arith)) (λ k d low high. after (suc k) d (omega arith) (omega arith)),
  )

  low_all : (x : Keyed) (ws : List Keyed) (p : Progress) → Rising lt o ws → NotBefore lt x ws p → Low lt o x ws
  low_all x [] p up h = tt
  low_all x (y ∷ ys) p up h = (h, low_chain lt o x y ys h up.0)

  reach_all : (x : Keyed) (gone ws : List Keyed) (p : Progress) → NotBefore lt x ws p → (is_over p ≡ true) ⊎ SomeOf (λ y. lt y x ≡ false) (gone ++ ws)
  reach_all x gone [] p h = inl h
  reach_all x gone (y ∷ ys) p h = inr (some_back (λ y. lt y x ≡ false) gone (y ∷ ys) (inl h))

  behind_more : (tk : List Keyed) (s : Shard) (l : List Keyed) (x : Keyed) → IsBehind tk s l → Rising lt o l → NotBefore lt x s.waiting s.progress → IsBehind (tk ++ x ∷ []) s l
  behind_more tk s l x h up n = record {
    gone = h.gone;
    back = h.back;
    low = all_append (λ t. Low lt o t s.waiting) tk (x ∷ []) h.low (low_all x s.waiting s.progress (rising_back lt o h.gone s.waiting (subst (Rising lt o) h.back up)) n, tt);
    reach = all_append (Reaches s l) tk (x ∷ []) h.reach (subst (λ (ys : List Keyed). (is_over s.progress ≡ true) ⊎ SomeOf (λ y. lt y x ≡ false) ys) (sym h.back) (reach_all x h.gone s.waiting s.progress n), tt);
  }

  -- a shard whose front is after x gives no more of x's key
  closes : (z x : Keyed) (gone ws : List Keyed) (p : Progress) → ties lt z x ≡ true → Rising lt o ws → Follows lt x ws p → ((is_over p ≡ true) ⊎ SomeOf (λ y. lt z y ≡ true) (gone ++ ws)) × (filter (ties lt z) ws ≡ [])
  closes z x gone [] p e up h = (inl h, refl)
  closes z x gone (y ∷ ys) p e up h =
      let zy : lt z y ≡ true = before_tied lt o z x y e h in (
        inr (some_back (λ y. lt z y ≡ true) gone (y ∷ ys) (inl zy)),
        none_pass (ties lt z) (y ∷ ys) (before_differs lt o z y zy, all_weaker (λ w. lt w y ≡ false) (λ w. ties lt z w ≡ false) (λ w k. before_differs lt o z w (before_later lt o z y w zy k)) ys up.0),
      )

  before_front : (z x : Keyed) (tk : List Keyed) (i : ℕ) (ss : List Shard) (ls : List (List Keyed)) → ties lt z x ≡ true → AllWithin (λ s. Follows lt x s.waiting s.progress) ss 0 i → Each (λ s l. IsBehind tk s l × Rising lt o l) ss ls → Before (ties lt z) (ClosedAt z) i ss ls
  before_front z x tk zero ss ls e f h = tt
  before_front z x tk (suc i) [] ls e f h = tt
  before_front z x tk (suc i) (s ∷ ss) [] e f h = absurd h
  before_front z x tk (suc i) (s ∷ ss) (l ∷ ls) e f h =
      let k : ((is_over s.progress ≡ true) ⊎ SomeOf (λ y. lt z y ≡ true) (h.0.0.gone ++ s.waiting)) × (filter (ties lt z) s.waiting ≡ []) = closes z x h.0.0.gone s.waiting s.progress e (rising_back lt o h.0.0.gone s.waiting (subst (Rising lt o) h.0.0.back h.0.1)) (f 0 s (omega arith) (omega arith)) in
      (subst (λ (ys : List Keyed). (is_over s.progress ≡ true) ⊎ SomeOf (λ y. lt z y ≡ true) ys) (sym h.0.0.back) k.0, k.1, before_front z x tk i ss ls e (λ k d low high. f (suc k) d (omega arith) (omega arith)) h.1)

  aligned_more : (z : Keyed) (ss : List Shard) (ls : List (List Keyed)) (tk : List Keyed) (i : ℕ) (s : Shard) (x : Keyed) (rest : List Keyed) → slice_get ss i ≡ Some s → s.waiting ≡ x ∷ rest → AllWithin (λ s. Follows lt x s.waiting s.progress) ss 0 i → Each (λ s l. IsBehind tk s l × Rising lt o l) ss ls → Aligned (ties lt z) (ClosedAt z) (filter (ties lt z) tk) ss ls → Aligned (ties lt z) (ClosedAt z) (filter (ties lt z) (tk ++ x ∷ [])) (slice_set ss i (record { waiting = rest; progress = s.progress })) ls
  aligned_more z ss ls tk i s x rest at front earlier known a =
      elim (ties lt z x) as (λ b. ties lt z x ≡ b → Aligned (ties lt z) (ClosedAt z) (filter (ties lt z) (tk ++ x ∷ [])) (slice_set ss i (record { waiting = rest; progress = s.progress })) ls) [
        | true ↦ λ e. subst (λ (ys : List Keyed). Aligned (ties lt z) (ClosedAt z) ys (slice_set ss i (record { waiting = rest; progress = s.progress })) ls)
            (sym (filter-append (ties lt z) tk (x ∷ []) ∙ ap (λ (b : Bool). filter (ties lt z) tk ++ cond b (x ∷ []) []) e))
            (aligned_takes (ties lt z) (ClosedAt z) (filter (ties lt z) tk) ss ls i s (record { waiting = rest; progress = s.progress }) x at (ap (filter (ties lt z)) front ∙ ap (λ (b : Bool). cond b (x ∷ filter (ties lt z) rest) (filter (ties lt z) rest)) e) (before_front z x tk i ss ls e earlier known) a)
        | false ↦ λ e. subst (λ (ys : List Keyed). Aligned (ties lt z) (ClosedAt z) ys (slice_set ss i (record { waiting = rest; progress = s.progress })) ls)
            (sym (filter-append (ties lt z) tk (x ∷ []) ∙ ap (λ (b : Bool). filter (ties lt z) tk ++ cond b (x ∷ []) []) e ∙ append-nil (filter (ties lt z) tk)))
            (aligned_marked (ties lt z) (ClosedAt z) (filter (ties lt z) tk) ss ls i s (record { waiting = rest; progress = s.progress }) at (sym (ap (filter (ties lt z)) front ∙ ap (λ (b : Bool). cond b (x ∷ filter (ties lt z) rest) (filter (ties lt z) rest)) e)) (λ l f c. c) a)
      ] refl

  -- a shard comes further, and what waits stays
  pub merging_marked : (ss : List Shard) (ls : List (List Keyed)) (tk : List Keyed) (i : ℕ) (s : Shard) (p : Progress) → slice_get ss i ≡ Some s → (is_over s.progress ≡ true → is_over p ≡ true) → IsMerging ss ls tk → IsMerging (slice_set ss i (record { waiting = s.waiting; progress = p })) ls tk
  merging_marked ss ls tk i s p at f m = record {
    rising = m.rising;
    behind = each_set (IsBehind tk) ss ls i s (record { waiting = s.waiting; progress = p }) at (λ l e h. record {
      gone = h.gone;
      back = h.back;
      low = h.low;
      reach = all_weaker (Reaches s l) (Reaches (record { waiting = s.waiting; progress = p }) l) (λ t r. reach_marked s p l t f r) tk h.reach;
    }) m.behind;
    aligned = λ z. aligned_marked (ties lt z) (ClosedAt z) (filter (ties lt z) tk) ss ls i s (record { waiting = s.waiting; progress = p }) at refl (λ l e c. closed_marked z s p l f c) (m.aligned z);
  }

  -- a batch comes
  pub merging_arrives : (ss : List Shard) (ls : List (List Keyed)) (tk : List Keyed) (i : ℕ) (s : Shard) (b : List Keyed) → slice_get ss i ≡ Some s → (is_over s.progress ≡ true → ⊥) → s.waiting ≡ [] → AllByRecursion (Rising lt o) (add_to ls i b) → IsMerging ss ls tk → IsMerging (slice_set ss i (record { waiting = b; progress = Answered })) (add_to ls i b) tk
  merging_arrives ss ls tk i s b at not_over empty up m = record {
    rising = m.rising;
    behind = each_add (IsBehind tk) ss ls i s (record { waiting = b; progress = Answered }) b at (λ l e h. record {
      gone = l;
      back = refl;
      low = all_weaker (Reaches s l) (λ t. Low lt o t b) (λ t r. reach_low lt o t l b (at_added (Rising lt o) ls i l b e up) (reach_some s l t not_over r)) tk h.reach;
      reach = all_weaker (Reaches s l) (Reaches (record { waiting = b; progress = Answered }) (l ++ b)) (λ t r. inr (some_front (λ y. lt y t ≡ false) l b (reach_some s l t not_over r))) tk h.reach;
    }) m.behind;
    aligned = λ z. aligned_arrives (ties lt z) (ClosedAt z) (filter (ties lt z) tk) ss ls i s (record { waiting = b; progress = Answered }) at (ap (filter (ties lt z)) empty) (λ l e c. (
      inr (some_front (λ y. lt z y ≡ true) l b (closed_some z s l not_over c)),
      none_pass (ties lt z) b (all_weaker (λ y. lt z y ≡ true) (λ y. ties lt z y ≡ false) (λ y k. before_differs lt o z y k) b (reach_before lt o z l b (at_added (Rising lt o) ls i l b e up) (closed_some z s l not_over c))),
    )) (m.aligned z);
  }

  -- x is taken
  pub merging_takes : (ss : List Shard) (ls : List (List Keyed)) (tk : List Keyed) (i : ℕ) (s : Shard) (x : Keyed) (rest : List Keyed) → slice_get ss i ≡ Some s → s.waiting ≡ x ∷ rest → AllWithin (λ s. Follows lt x s.waiting s.progress) ss 0 i → AllWithin (λ s. NotBefore lt x s.waiting s.progress) ss (i + 1) (length ss) → AllByRecursion (Rising lt o) ls → IsMerging ss ls tk → IsMerging (slice_set ss i (record { waiting = rest; progress = s.progress })) ls (tk ++ x ∷ [])
  merging_takes ss ls tk i s x rest at front earlier later up m =
      let known : Each (λ s l. IsBehind tk s l × Rising lt o l) ss ls = each_with (IsBehind tk) (Rising lt o) ss ls m.behind up in
      let fronts : AllByRecursion (λ s. NotBefore lt x s.waiting s.progress) ss = all_fronts x ss i s rest at front earlier later in
      let more : Each (IsBehind (tk ++ x ∷ [])) ss ls = each_weaker (λ s l. (IsBehind tk s l × Rising lt o l) × NotBefore lt x s.waiting s.progress) (IsBehind (tk ++ x ∷ [])) (λ s l h. behind_more tk s l x h.0.0 h.0.1 h.1) ss ls (each_shard (λ s l. IsBehind tk s l × Rising lt o l) (λ s. NotBefore lt x s.waiting s.progress) ss ls known fronts) in
      let here : (l : List Keyed) × IsBehind tk s l = each_at (IsBehind tk) ss ls i s at m.behind in
      record {
        rising = rising_append lt o tk (x ∷ []) m.rising (tt, tt) (all_weaker (λ t. Low lt o t s.waiting) (λ t. Low lt o t (x ∷ [])) (λ t h. ((subst (Low lt o t) front h).0, tt)) tk here.1.low);
        behind = each_set (IsBehind (tk ++ x ∷ [])) ss ls i s (record { waiting = rest; progress = s.progress }) at (λ l e h. record {
          gone = h.gone ++ x ∷ [];
          back = h.back ∙ ap (λ (ys : List Keyed). h.gone ++ ys) front ∙ sym (append_assoc h.gone (x ∷ []) rest);
          low = all_weaker (λ t. Low lt o t s.waiting) (λ t. Low lt o t rest) (λ t k. (subst (Low lt o t) front k).1) (tk ++ x ∷ []) h.low;
          reach = h.reach;
        }) more;
        aligned = λ z. aligned_more z ss ls tk i s x rest at front earlier known (m.aligned z);
      }

-- The choice of the next item, and what taking it leaves.
use Rattle.std.proofs.Common.{◌≡◌, ℕ, ◌+◌, ◌<◌, ◌≤◌, Bool, true, false, List, [], ◌∷◌, length, get_or, refl, sym, ap, subst, ◌∙◌, ⊎_elim, arith}
use Rattle.std.specs.Prelude.{◌&&◌, not, Option, Some, None, slice_get, slice_set, MatchOption}
use Rattle.std.specs.List.{AllWithin}
use Rattle.std.specs.Cmp.{IsStrictWeakOrder}
use Rattle.std.proofs.lemmas.List.{set-get_or}
use Rattle.std.proofs.lemmas.Option.{slice_get_read, get_or_from_slice_get}
use Rattle.std.proofs.lemmas.Bool.{cases_lt}
use Rattle.merge_cursor.specs.declared.item.Keyed.{Keyed}
use Rattle.merge_cursor.specs.declared.shards.Shard.{Shard}
use Rattle.merge_cursor.specs.declared.shards.Progress.{Progress}
use Rattle.merge_cursor.specs.Core.{Core}
use Rattle.merge_cursor.specs.Whole.{key_before}
use Rattle.merge_cursor.specs.Shards.{is_over, is_empty, is_used_up, StartsWith, Follows, NotBefore, IsLeastFront, HasFront, TakesFront, IsBestSoFar}
use Rattle.merge_cursor.specs.Answers.{Answers, take_of}
use Rattle.merge_cursor.proofs.Ordered.{before_later}
use Rattle.merge_cursor.proofs.Schedules.{key_order}

pub front_taken : (ss : List Shard) (i : ℕ) (s : Shard) (r : Option Keyed) (ws : List Keyed) → i < length ss → s ≡ get_or ss i s → MatchOption r ((s.waiting ≡ []) × (ws ≡ [])) (λ k. s.waiting ≡ k ∷ ws) → MatchOption r ((slice_set ss i (record { waiting = ws; progress = s.progress }) ≡ ss) × AllWithin (λ s. s.waiting ≡ []) ss i (i + 1)) (λ x. TakesFront ss i x (slice_set ss i (record { waiting = ws; progress = s.progress })))
front_taken ss i s None ws lt e h =
    let at : slice_get ss i ≡ Some s = slice_get_read ss (length ss) i s refl lt e in
    let same : record { waiting = ws; progress = s.progress } ≡ s = ap (λ (w : List Keyed). record { waiting = w; progress = s.progress }) (h.1 ∙ sym h.0) in (
      ap (slice_set ss i) (same ∙ e) ∙ set-get_or ss i s,
      λ k d low high. let k_is : i ≡ k = omega arith in subst (λ (j : ℕ). (get_or ss j d).waiting ≡ []) k_is (ap (λ (q : Shard). q.waiting) (get_or_from_slice_get ss i s d at) ∙ h.0),
    )
front_taken ss i s (Some x) ws lt e h = record { shard = s; at = slice_get_read ss (length ss) i s refl lt e; rest = ws; front = h; then = refl }

module _ (lt : Keyed → Keyed → Bool) (o : IsStrictWeakOrder lt) where
  not_before_less : (x y : Keyed) (ws : List Keyed) (p : Progress) → lt y x ≡ true → NotBefore lt x ws p → Follows lt y ws p
  not_before_less x y [] p e h = h
  not_before_less x y (w ∷ ws) p e h = before_later lt o y x w e h

  follows_less : (x y : Keyed) (ws : List Keyed) (p : Progress) → lt y x ≡ true → Follows lt x ws p → Follows lt y ws p
  follows_less x y [] p e h = h
  follows_less x y (w ∷ ws) p e h = before_later lt o y x w e (o.one_way x w h)

  follows_front : (x y : Keyed) (ws rest : List Keyed) (p : Progress) → ws ≡ x ∷ rest → lt y x ≡ true → Follows lt y ws p
  follows_front x y [] rest p e h = absurd cc
  follows_front x y (w ∷ ws) rest p e h = let same : w ≡ x = cc in subst (λ (v : Keyed). lt y v ≡ true) (sym same) h

  not_before_front : (x y : Keyed) (ws rest : List Keyed) (p : Progress) → ws ≡ y ∷ rest → lt y x ≡ false → NotBefore lt x ws p
  not_before_front x y [] rest p e h = absurd cc
  not_before_front x y (w ∷ ws) rest p e h = let same : w ≡ y = cc in subst (λ (v : Keyed). lt v x ≡ false) (sym same) h

-- P at the i-th element
at_place : (P : Shard → Type 0) (ss : List Shard) (i k : ℕ) (s d : Shard) → slice_get ss i ≡ Some s → i ≡ k → P s → P (get_or ss k d)
at_place P ss i k s d at e h = subst (λ (j : ℕ). P (get_or ss j d)) e (subst P (sym (get_or_from_slice_get ss i s d at)) h)

least_new : (ss : List Shard) (b i : ℕ) (x y : Keyed) → HasFront ss b x → IsLeastFront x ss b i → HasFront ss i y → key_before y x ≡ true → b < i → IsLeastFront y ss i (i + 1)
least_new ss b i x y hx m hy e lt = record {
  earlier = λ k d low high.
      ⊎_elim
      (λ (less : k < b). follows_less key_before key_order x y (get_or ss k d).waiting (get_or ss k d).progress e (m.earlier k d low less))
      (λ (more : b ≤ k).
      ⊎_elim
      (λ (less : b < k). not_before_less key_before key_order x y (get_or ss k d).waiting (get_or ss k d).progress e (m.later k d (omega arith) high))
      (λ (le : k ≤ b). at_place (λ s. Follows key_before y s.waiting s.progress) ss b k hx.shard d hx.at (omega arith) (follows_front key_before key_order x y hx.shard.waiting hx.rest hx.shard.progress hx.front e))
      (cases_lt b k))
      (cases_lt k b);
  later = λ k d low high. absurd (omega arith);
}

least_kept : (ss : List Shard) (b i : ℕ) (x y : Keyed) → IsLeastFront x ss b i → HasFront ss i y → key_before y x ≡ false → IsLeastFront x ss b (i + 1)
least_kept ss b i x y m hy e = record {
  earlier = m.earlier;
  later = λ k d low high.
      ⊎_elim
      (λ (less : k < i). m.later k d low less)
      (λ (more : i ≤ k). at_place (λ s. NotBefore key_before x s.waiting s.progress) ss i k hy.shard d hy.at (omega arith) (not_before_front key_before key_order x y hy.shard.waiting hy.rest hy.shard.progress hy.front e))
      (cases_lt k i);
}

-- the front that was read is that of the best so far
best_is : (ss : List Shard) (b : ℕ) (x least : Keyed) (s : Shard) → HasFront ss b x → s ≡ get_or ss b s → StartsWith least s.waiting → least ≡ x
best_is ss b x least s h e st =
    let same : s ≡ h.shard = e ∙ get_or_from_slice_get ss b h.shard s h.at in
    let fronts : least ∷ st.0 ≡ x ∷ h.rest = sym st.1 ∙ ap (λ (q : Shard). q.waiting) same ∙ h.front in
    cc

pub better_new : (ss : List Shard) (b i : ℕ) (y least : Keyed) (s : Shard) → IsBestSoFar ss (Some b) i → HasFront ss i y → s ≡ get_or ss b s → StartsWith least s.waiting → key_before y least ≡ true → IsBestSoFar ss (Some i) (i + 1)
better_new ss b i y least s best h e st before =
    let same : least ≡ best.0 = best_is ss b best.0 least s best.1 e st in
    (y, h, least_new ss b i best.0 y best.1 best.2 h (subst (λ (v : Keyed). key_before y v ≡ true) same before) best.3, omega arith)

pub better_kept : (ss : List Shard) (b i : ℕ) (y least : Keyed) (s : Shard) → IsBestSoFar ss (Some b) i → HasFront ss i y → s ≡ get_or ss b s → StartsWith least s.waiting → key_before y least ≡ false → IsBestSoFar ss (Some b) (i + 1)
better_kept ss b i y least s best h e st before =
    let same : least ≡ best.0 = best_is ss b best.0 least s best.1 e st in
    let lt : b < i = best.3 in
    (best.0, best.1, least_kept ss b i best.0 y best.2 h (subst (λ (v : Keyed). key_before y v ≡ false) same before), omega arith)

lacking_is : (o e : Bool) → (o && e) ≡ false → e ≡ true → (not o && e) ≡ true
lacking_is false e h k = k
lacking_is true e h k = absurd cc

empty_is : {X : Type 0} (xs : List X) → xs ≡ [] → is_empty xs ≡ true
empty_is xs e = ap is_empty e

pub in_order_answers : (c : Core) (n : ℕ) (r : Option Keyed) (new : List Shard) (s : Shard) → c.by_key ≡ false → slice_get c.shards n ≡ Some s → AllWithin (λ s. is_used_up s ≡ true) c.shards 0 n → AllWithin (λ s. is_used_up s ≡ false) c.shards n (n + 1) → MatchOption r ((new ≡ c.shards) × AllWithin (λ s. s.waiting ≡ []) c.shards n (n + 1)) (λ x. TakesFront c.shards n x new) → Answers c (take_of r) (record { by_key = c.by_key; shards = new; least = c.least })
in_order_answers c n None new s order at used up h =
    let not_used : is_used_up s ≡ false = subst (λ (q : Shard). is_used_up q ≡ false) (get_or_from_slice_get c.shards n s s at) (up n s (omega arith) (omega arith)) in
    let none : s.waiting ≡ [] = subst (λ (q : Shard). q.waiting ≡ []) (get_or_from_slice_get c.shards n s s at) (h.1 n s (omega arith) (omega arith)) in (
      ap (λ (ss : List Shard). record { by_key = c.by_key; shards = ss; least = c.least }) h.0,
      record { i = n; shard = s; at = at; lacking = lacking_is (is_over s.progress) (is_empty s.waiting) not_used (empty_is s.waiting none); first = λ _. used },
    )
in_order_answers c n (Some x) new s order at used up h = record {
  i = n;
  shard = h.shard;
  rest = h.rest;
  at = h.at;
  front = h.front;
  in_order = λ _. used;
  in_keys = λ e. absurd cc;
  then = ap (λ (ss : List Shard). record { by_key = c.by_key; shards = ss; least = c.least }) h.then;
}

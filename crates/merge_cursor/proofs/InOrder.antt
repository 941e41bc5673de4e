-- In order: what was taken is the beginning of the joined lists.
use Rattle.std.proofs.Common.{◌≡◌, ℕ, zero, suc, Bool, true, false, List, [], ◌∷◌, ◌++◌, length, refl, sym, ap, ◌∙◌, inl, inr, arith}
use Rattle.std.specs.Prelude.{◌&&◌, replicate, filter}
use Rattle.std.specs.List.{AllWithin, AllByRecursion}
use Rattle.merge_cursor.specs.declared.item.Keyed.{Keyed}
use Rattle.merge_cursor.specs.declared.shards.Shard.{Shard}
use Rattle.merge_cursor.specs.declared.shards.Progress.{Progress}
use Rattle.merge_cursor.specs.declared.shards.Progress.TheVariants.{Fresh, Asked, Answered, Over}
use Rattle.merge_cursor.specs.Core.{Core}
use Rattle.merge_cursor.specs.Whole.{joined}
use Rattle.merge_cursor.specs.Shards.{is_over, is_empty, is_used_up, is_unasked}
use Rattle.merge_cursor.specs.Schedule.{Event, Run, start}
use Rattle.merge_cursor.specs.Laws.{taken, lists}
use Rattle.merge_cursor.proofs.Aligned.{Untouched, Aligned, Before, all_waiting, aligned_joined, untouched_aligned, aligned_marked, aligned_arrives, aligned_takes}
use Rattle.merge_cursor.proofs.Runs.{IsKept, run_keeps}

abbrev pub any_item : Keyed → Bool
any_item x = true

-- no more will come of it
abbrev pub Closed : Shard → List Keyed → Type 0
Closed s l = is_over s.progress ≡ true

pub both_true : (a b : Bool) → (a && b) ≡ true → (a ≡ true) × (b ≡ true)
both_true true b e = (refl, e)
both_true false b e = absurd cc

pub is_empty_nil : {X : Type 0} (xs : List X) → is_empty xs ≡ true → xs ≡ []
is_empty_nil [] e = refl
is_empty_nil (x ∷ xs) e = absurd cc

pub filter_any : (xs : List Keyed) → filter any_item xs ≡ xs
filter_any [] = refl
filter_any (x ∷ xs) = ap (λ (ys : List Keyed). x ∷ ys) (filter_any xs)

-- where the shards before the i-th are used up, they are past by any test that closes those
pub before_used : (P : Keyed → Bool) (C : Shard → List Keyed → Type 0) → ((s : Shard) (l : List Keyed) → is_over s.progress ≡ true → C s l) → (i : ℕ) (ss : List Shard) (ls : List (List Keyed)) → AllWithin (λ s. is_used_up s ≡ true) ss 0 i → length ss ≡ length ls → Before P C i ss ls
before_used P C c zero ss ls h e = tt
before_used P C c (suc i) [] ls h e = tt
before_used P C c (suc i) (s ∷ ss) [] h e = absurd cc
before_used P C c (suc i) (s ∷ ss) (l ∷ ls) h e =
    let u : (is_over s.progress ≡ true) × (is_empty s.waiting ≡ true) = both_true (is_over s.progress) (is_empty s.waiting) (h 0 s (omega arith) (omega arith)) in
    (c s l u.0, ap (filter P) (is_empty_nil s.waiting u.1), before_used P C c i ss ls (λ k d low high. h (suc k) d (omega arith) (omega arith)) (omega arith))

pub all_used : (ss : List Shard) → AllByRecursion (λ s. is_used_up s ≡ true) ss → all_waiting ss ≡ []
all_used [] h = refl
all_used (s ∷ ss) h =
    let u : (is_over s.progress ≡ true) × (is_empty s.waiting ≡ true) = both_true (is_over s.progress) (is_empty s.waiting) h.0 in
    rw (is_empty_nil s.waiting u.1, all_used ss h.1) refl

pub untouched_start : (P : Keyed → Bool) (n : ℕ) (s : Shard) → s.waiting ≡ [] → Untouched P (replicate n s) (replicate n [])
untouched_start P zero s e = tt
untouched_start P (suc n) s e = (ap (filter P) e, untouched_start P n s e)

abbrev pub InOrder : Core → List (List Keyed) → List Keyed → Type 0
InOrder c ls tk = (c.by_key ≡ false) × Aligned any_item Closed tk c.shards ls

pub untouched_length : (P : Keyed → Bool) (ss : List Shard) (ls : List (List Keyed)) → Untouched P ss ls → length ss ≡ length ls
untouched_length P [] [] u = refl
untouched_length P [] (l ∷ ls) u = absurd u
untouched_length P (s ∷ ss) [] u = absurd u
untouched_length P (s ∷ ss) (l ∷ ls) u = ap suc (untouched_length P ss ls u.1)

pub aligned_length : (P : Keyed → Bool) (C : Shard → List Keyed → Type 0) (tk : List Keyed) (ss : List Shard) (ls : List (List Keyed)) → Aligned P C tk ss ls → length ss ≡ length ls
aligned_length P C tk [] [] a = refl
aligned_length P C tk [] (l ∷ ls) a = absurd a
aligned_length P C tk (s ∷ ss) [] a = absurd a
aligned_length P C tk (s ∷ ss) (l ∷ ls) (inl u) = ap suc (untouched_length P ss ls u.1)
aligned_length P C tk (s ∷ ss) (l ∷ ls) (inr p) = ap suc (aligned_length P C p.0 ss ls p.4)

abbrev Anything : List (List Keyed) → Type 0
Anything ls = Unit {0}

over_asked : (p : Progress) → is_over p ≡ true → is_unasked p ≡ true → ⊥
over_asked Fresh e f = absurd cc
over_asked Asked e f = absurd cc
over_asked Answered e f = absurd cc
over_asked Over e f = absurd cc

-- the shard asked was idle, so it is not over
pub idle_open : (s : Shard) → is_over s.progress ≡ true → (is_unasked s.progress && is_empty s.waiting) ≡ true → ⊥
idle_open s over idle = over_asked s.progress over (both_true (is_unasked s.progress) (is_empty s.waiting) idle).0

pub not_over : (p : Progress) → p ≡ Asked → is_over p ≡ true → ⊥
not_over p e over = absurd cc

in_order_kept : IsKept Anything InOrder
in_order_kept = record {
  down = λ ls i b g. tt;
  asked = λ old i new ls tk g a h. rw a.then (h.0, aligned_marked any_item Closed tk old.shards ls i a.shard (record { waiting = a.shard.waiting; progress = Asked }) a.at refl (λ l f over. absurd (idle_open a.shard over a.idle)) h.1);
  arrived = λ old i b new ls tk g a h. rw a.then (h.0, aligned_arrives any_item Closed tk old.shards ls i a.shard (record { waiting = b; progress = Answered }) a.at (ap (filter any_item) a.empty) (λ l f over. absurd (not_over a.shard.progress a.asked over)) h.1);
  ended = λ old i f new ls tk g a h. rw a.then (h.0, aligned_marked any_item Closed tk old.shards ls i a.shard (record { waiting = a.shard.waiting; progress = Over }) a.at refl (λ l q over. refl) h.1);
  took = λ old x new ls tk g a h. rw a.then (h.0, aligned_takes any_item Closed tk old.shards ls a.i a.shard (record { waiting = a.rest; progress = a.shard.progress }) x a.at (ap (filter any_item) a.front) (before_used any_item Closed (λ s l over. over) a.i old.shards ls (a.in_order h.0) (aligned_length any_item Closed tk old.shards ls h.1)) h.1);
}

pub in_order_run : (n : ℕ) (es : List Event) (core : Core) → Run (start false n) es core → InOrder core (lists n es) (taken es)
in_order_run n es core r = run_keeps Anything InOrder in_order_kept es (start false n) core (replicate n []) [] r tt (refl, untouched_aligned any_item Closed (replicate n (record { waiting = []; progress = Fresh })) (replicate n []) (untouched_start any_item n (record { waiting = []; progress = Fresh }) refl))

-- what was taken, and then what waits, are the joined lists
pub in_order_joined : (n : ℕ) (es : List Event) (core : Core) → Run (start false n) es core → taken es ++ all_waiting core.shards ≡ joined (lists n es)
in_order_joined n es core r = ap (λ (ys : List Keyed). taken es ++ ys) (sym (filter_any (all_waiting core.shards))) ∙ aligned_joined any_item Closed (taken es) core.shards (lists n es) (in_order_run n es core r).1 ∙ filter_any (joined (lists n es))

-- What the calls' clauses come to, over every schedule.
use Rattle.std.proofs.Common.{◌≡◌, ℕ, ◌+◌, ◌<◌, ◌≤◌, Bool, true, false, List, [], ◌∷◌, ◌++◌, length, get_or, refl, sym, ap, subst, ◌∙◌, ⊎_elim, arith, append-nil}
use Rattle.std.specs.Prelude.{◌&&◌, ◌↔◌, not, Option, Some, None, slice_get, MatchOption}
use Rattle.std.specs.List.{AllWithin}
use Rattle.std.proofs.lemmas.List.{length-set}
use Rattle.std.proofs.lemmas.Option.{slice_get_within, get_or_from_slice_get}
use Rattle.std.proofs.lemmas.Bool.{cases_lt}
use Rattle.merge_cursor.specs.declared.item.Keyed.{Keyed}
use Rattle.merge_cursor.specs.declared.shards.Shard.{Shard}
use Rattle.merge_cursor.specs.declared.shards.Progress.{Progress}
use Rattle.merge_cursor.specs.declared.answer.Take.{Take}
use Rattle.merge_cursor.specs.declared.answer.Take.TheVariants.{Item, NotYet, Ended}
use Rattle.merge_cursor.specs.Core.{Core}
use Rattle.merge_cursor.specs.Whole.{key_before}
use Rattle.merge_cursor.specs.Shards.{is_over, is_empty, is_used_up, is_lacking, is_idle, Follows, NotBefore, Lacks, AllUsedUp, NoneIdle}
use Rattle.merge_cursor.specs.Schedule.{Event, asks, arrives, ends, takes, Asks, Takes, Step, Run, start, StandsFor}
use Rattle.merge_cursor.specs.Laws.{Carries, HasTakenPrefix, HasTakenAll}
use Rattle.merge_cursor.specs.Answers.{Answers, took, asked}
use Rattle.merge_cursor.proofs.Runs.{run_more, run_on}
use Rattle.merge_cursor.proofs.InOrder.{both_true, is_empty_nil}
use Rattle.merge_cursor.proofs.Schedules.{takes_prefix, takes_all}

same_kind : (old : Core) (e : Event) (new : Core) → Step old e new → (new.by_key ≡ old.by_key) × (length new.shards ≡ length old.shards)
same_kind old (asks i) new s = (ap (λ (c : Core). c.by_key) s.then, ap (λ (c : Core). length c.shards) s.then ∙ length-set old.shards i _)
same_kind old (arrives i b) new s = (ap (λ (c : Core). c.by_key) s.then, ap (λ (c : Core). length c.shards) s.then ∙ length-set old.shards i _)
same_kind old (ends i f) new s = (ap (λ (c : Core). c.by_key) s.then, ap (λ (c : Core). length c.shards) s.then ∙ length-set old.shards i _)
same_kind old (takes x) new s = (ap (λ (c : Core). c.by_key) s.then, ap (λ (c : Core). length c.shards) s.then ∙ length-set old.shards s.i _)

pub carries : (old : Core) (e : Event) (new : Core) → Step old e new → Carries old (e ∷ []) new
carries old e new s events h =
    let k : (new.by_key ≡ old.by_key) × (length new.shards ≡ length old.shards) = same_kind old e new s in
    let r : Run (start old.by_key (length old.shards)) (events ++ e ∷ []) new = run_more events (start old.by_key (length old.shards)) old new e h s in
    subst (λ (b : Bool). Run (start b (length new.shards)) (events ++ e ∷ []) new) (sym k.0) (subst (λ (n : ℕ). Run (start old.by_key n) (events ++ e ∷ []) new) (sym k.1) r)

pub carries_none : (old new : Core) → new ≡ old → Carries old [] new
carries_none old new e events h = subst (λ (c : Core). StandsFor c (events ++ [])) (sym e) (subst (StandsFor old) (sym (append-nil events)) h)

pub asked_carries : (old : Core) (r : Option ℕ) (new : Core) → MatchOption r (NoneIdle old.shards × (new ≡ old)) (λ i. Asks old i new) → Carries old (asked r) new
asked_carries old None new h = carries_none old new h.1
asked_carries old (Some i) new h = carries old (asks i) new h

pub answers_carry : (old : Core) (r : Take) (new : Core) → Answers old r new → Carries old (took r) new
answers_carry old (Item x) new h = carries old (takes x) new h
answers_carry old NotYet new h = carries_none old new h.0
answers_carry old Ended new h = carries_none old new h.0

pub has_taken_prefix : (c : Core) → HasTakenPrefix c
has_taken_prefix c events later last h r up = takes_prefix c.by_key (length c.shards) events later last (run_on events later (start c.by_key (length c.shards)) c last h r) up

pub has_taken_all : (old : Core) (r : Take) (new : Core) → Answers old r new → r ≡ Ended → HasTakenAll new
has_taken_all old (Item x) new h e = absurd cc
has_taken_all old NotYet new h e = absurd cc
has_taken_all old Ended new h e = λ events r up. takes_all new.by_key (length new.shards) events new r up (subst (λ (c : Core). AllUsedUp c.shards) (sym h.0) h.1)

within_at : (P : Shard → Type 0) (ss : List Shard) (low high i : ℕ) (s : Shard) → AllWithin P ss low high → slice_get ss i ≡ Some s → low ≤ i → i < high → P s
within_at P ss low high i s h at le lt = subst P (get_or_from_slice_get ss i s s at) (h i s le lt)

pub none_exact : (old : Core) (r : Option ℕ) (new : Core) → MatchOption r (NoneIdle old.shards × (new ≡ old)) (λ i. Asks old i new) → (r ≡ None) ↔ NoneIdle old.shards
none_exact old None new h = (λ e. h.0, λ n. refl)
none_exact old (Some i) new h = (λ e. absurd cc, λ n. absurd (let f : is_idle h.shard ≡ false = within_at (λ s. is_idle s ≡ false) old.shards 0 (length old.shards) i h.shard n h.at (omega arith) (slice_get_within old.shards i h.shard h.at) in let t : is_idle h.shard ≡ true = h.idle in cc))

lacking_parts : (o e : Bool) → (not o && e) ≡ true → (o ≡ false) × (e ≡ true)
lacking_parts true e h = absurd cc
lacking_parts false e h = (refl, h)

used_not_lacking : (s : Shard) → is_used_up s ≡ true → is_lacking s ≡ true → ⊥
used_not_lacking s u l =
    let a : is_over s.progress ≡ true = (both_true (is_over s.progress) (is_empty s.waiting) u).0 in
    let b : is_over s.progress ≡ false = (lacking_parts (is_over s.progress) (is_empty s.waiting) l).0 in
    absurd cc

front_not_empty : (s : Shard) (x : Keyed) (rest : List Keyed) → s.waiting ≡ x ∷ rest → is_empty s.waiting ≡ true → ⊥
front_not_empty s x rest e f = let n : s.waiting ≡ [] = is_empty_nil s.waiting f in absurd cc

lacking_follows : (x : Keyed) (ws : List Keyed) (p : Progress) → is_over p ≡ false → is_empty ws ≡ true → Follows key_before x ws p → ⊥
lacking_follows x [] p o e h = absurd cc
lacking_follows x (w ∷ ws) p o e h = absurd cc

lacking_not_before : (x : Keyed) (ws : List Keyed) (p : Progress) → is_over p ≡ false → is_empty ws ≡ true → NotBefore key_before x ws p → ⊥
lacking_not_before x [] p o e h = absurd cc
lacking_not_before x (w ∷ ws) p o e h = absurd cc

same_at : (ss : List Shard) (i j : ℕ) (s t : Shard) → slice_get ss i ≡ Some s → slice_get ss j ≡ Some t → i ≡ j → s ≡ t
same_at ss i j s t a b e = sym (get_or_from_slice_get ss i s s a) ∙ ap (λ (k : ℕ). get_or ss k s) e ∙ get_or_from_slice_get ss j t s b

by_kind : (b : Bool) (P : Type 0) → (b ≡ false → P) → (b ≡ true → P) → P
by_kind false P f t = f refl
by_kind true P f t = t refl

takes_not_lacks : (old : Core) (x : Keyed) (new : Core) → Takes old x new → Lacks old.by_key old.shards → ⊥
takes_not_lacks old x new t l =
    let p : (is_over l.shard.progress ≡ false) × (is_empty l.shard.waiting ≡ true) = lacking_parts (is_over l.shard.progress) (is_empty l.shard.waiting) l.lacking in
    let here = λ (e : t.i ≡ l.i). front_not_empty l.shard x t.rest (subst (λ (s : Shard). s.waiting ≡ x ∷ t.rest) (same_at old.shards t.i l.i t.shard l.shard t.at l.at e) t.front) p.1 in
    by_kind old.by_key ⊥
    (λ order.
    ⊎_elim
    (λ (less : l.i < t.i). used_not_lacking l.shard (within_at (λ s. is_used_up s ≡ true) old.shards 0 t.i l.i l.shard (t.in_order order) l.at (omega arith) less) l.lacking)
    (λ (more : t.i ≤ l.i).
    ⊎_elim
    (λ (less : t.i < l.i). front_not_empty t.shard x t.rest t.front (both_true (is_over t.shard.progress) (is_empty t.shard.waiting) (within_at (λ s. is_used_up s ≡ true) old.shards 0 l.i t.i t.shard (l.first order) t.at (omega arith) less)).1)
    (λ (le : l.i ≤ t.i). here (omega arith))
    (cases_lt t.i l.i))
    (cases_lt l.i t.i))
    (λ keys.
    ⊎_elim
    (λ (less : l.i < t.i). lacking_follows x l.shard.waiting l.shard.progress p.0 p.1 (within_at (λ s. Follows key_before x s.waiting s.progress) old.shards 0 t.i l.i l.shard (t.in_keys keys).earlier l.at (omega arith) less))
    (λ (more : t.i ≤ l.i).
    ⊎_elim
    (λ (less : t.i < l.i). lacking_not_before x l.shard.waiting l.shard.progress p.0 p.1 (within_at (λ s. NotBefore key_before x s.waiting s.progress) old.shards (t.i + 1) (length old.shards) l.i l.shard (t.in_keys keys).later l.at (omega arith) (slice_get_within old.shards l.i l.shard l.at)))
    (λ (le : l.i ≤ t.i). here (omega arith))
    (cases_lt t.i l.i))
    (cases_lt l.i t.i))

used_at : (ss : List Shard) (i : ℕ) (s : Shard) → AllUsedUp ss → slice_get ss i ≡ Some s → is_used_up s ≡ true
used_at ss i s h at = within_at (λ s. is_used_up s ≡ true) ss 0 (length ss) i s h at (omega arith) (slice_get_within ss i s at)

pub not_yet_exact : (old : Core) (r : Take) (new : Core) → Answers old r new → (r ≡ NotYet) ↔ Lacks old.by_key old.shards
not_yet_exact old (Item x) new h = (λ e. absurd cc, λ l. absurd (takes_not_lacks old x new h l))
not_yet_exact old NotYet new h = (λ e. h.1, λ l. refl)
not_yet_exact old Ended new h = (λ e. absurd cc, λ l. absurd (used_not_lacking l.shard (used_at old.shards l.i l.shard h.1 l.at) l.lacking))

pub ended_exact : (old : Core) (r : Take) (new : Core) → Answers old r new → (r ≡ Ended) ↔ AllUsedUp old.shards
ended_exact old (Item x) new h = (λ e. absurd cc, λ u. absurd (front_not_empty h.shard x h.rest h.front (both_true (is_over h.shard.progress) (is_empty h.shard.waiting) (used_at old.shards h.i h.shard u h.at)).1))
ended_exact old NotYet new h = (λ e. absurd cc, λ u. absurd (used_not_lacking h.1.shard (used_at old.shards h.1.i h.1.shard u h.1.at) h.1.lacking))
ended_exact old Ended new h = (λ e. h.1, λ u. refl)

-- Over every schedule.
use Rattle.std.proofs.Common.{◌≡◌, ℕ, suc, ◌+◌, Bool, true, false, List, [], ◌∷◌, ◌++◌, get_or, refl, sym, ap, subst, ◌∙◌, arith, append_assoc, append-nil}
use Rattle.std.specs.Prelude.{replicate}
use Rattle.std.specs.List.{AllByRecursion}
use Rattle.std.specs.List.Sorted.{ties, IsSortedBy}
use Rattle.std.specs.Cmp.{IsStrictWeakOrder}
use Rattle.std.proofs.lemmas.List.Elements.{recursion_from_All, All-from_all_within}
use Rattle.std.proofs.lemmas.List.Sorted.{ranks_by, sorted_far}
use Rattle.std.proofs.lemmas.Cmp.{nat_list_cmp_total}
use Rattle.merge_cursor.specs.declared.item.Keyed.{Keyed}
use Rattle.merge_cursor.specs.declared.shards.Shard.{Shard}
use Rattle.merge_cursor.specs.declared.shards.Progress.TheVariants.{Fresh, Asked, Over}
use Rattle.merge_cursor.specs.Core.{Core}
use Rattle.merge_cursor.specs.Shards.{is_used_up}
use Rattle.merge_cursor.specs.Schedule.{Event, Run, start}
use Rattle.merge_cursor.specs.Laws.{taken, lists, Rise, TakesPrefix, TakesAll}
use Rattle.merge_cursor.specs.Whole.{ordered_by, key_before, whole}
use Rattle.merge_cursor.proofs.Aligned.{all_waiting, untouched_aligned}
use Rattle.merge_cursor.proofs.Runs.{IsKept, run_keeps, taken-append}
use Rattle.merge_cursor.proofs.InOrder.{in_order_joined, all_used, idle_open, not_over, untouched_start}
use Rattle.merge_cursor.proofs.Pairs.{each_start, all_added}
use Rattle.merge_cursor.proofs.Ordered.{Low, Rising, rising_front}
use Rattle.merge_cursor.proofs.ByKey.{IsMerging, IsBehind, ClosedAt, merging_whole, merging_marked, merging_arrives, merging_takes}

pub key_order : IsStrictWeakOrder key_before
key_order = ranks_by nat_list_cmp_total (λ (k : Keyed). k.key)

-- the lists rise, by recursion
abbrev pub Ups : List (List Keyed) → Type 0
Ups ls = AllByRecursion (Rising key_before key_order) ls

low_from : (x : Keyed) (xs : List Keyed) → IsSortedBy key_before (x ∷ xs) → Low key_before key_order x xs
low_from x xs h = recursion_from_All (λ y. key_before y x ≡ false) xs (λ k d high. sorted_far key_before key_order (x ∷ xs) h 0 (suc k) d (omega arith) (omega arith))

pub rising_from : (xs : List Keyed) → IsSortedBy key_before xs → Rising key_before key_order xs
rising_from [] h = tt
rising_from (x ∷ xs) h = (low_from x xs h, rising_from xs (λ k d low high. let e : suc k + 1 ≡ suc (k + 1) = omega arith in subst (λ (j : ℕ). key_before (get_or (x ∷ xs) j d) (get_or xs k d) ≡ false) e (h (suc k) d (omega arith) (omega arith))))

ups_from : (ls : List (List Keyed)) → AllByRecursion (IsSortedBy key_before) ls → Ups ls
ups_from [] h = tt
ups_from (l ∷ ls) h = (rising_from l h.0, ups_from ls h.1)

abbrev ByKey : Core → List (List Keyed) → List Keyed → Type 0
ByKey c ls tk = (c.by_key ≡ true) × IsMerging key_before key_order c.shards ls tk

by_key_kept : IsKept Ups ByKey
by_key_kept = record {
  down = λ ls i b g. all_added (Rising key_before key_order) (rising_front key_before key_order) ls i b g;
  asked = λ old i new ls tk g a h. rw a.then (h.0, merging_marked key_before key_order old.shards ls tk i a.shard Asked a.at (λ over. absurd (idle_open a.shard over a.idle)) h.1);
  arrived = λ old i b new ls tk g a h. rw a.then (h.0, merging_arrives key_before key_order old.shards ls tk i a.shard b a.at (not_over a.shard.progress a.asked) a.empty g h.1);
  ended = λ old i f new ls tk g a h. rw a.then (h.0, merging_marked key_before key_order old.shards ls tk i a.shard Over a.at (λ over. refl) h.1);
  took = λ old x new ls tk g a h. rw a.then (h.0, merging_takes key_before key_order old.shards ls tk a.i a.shard x a.rest a.at a.front (a.in_keys h.0).earlier (a.in_keys h.0).later g h.1);
}

pub by_key_run : (n : ℕ) (es : List Event) (core : Core) → Run (start true n) es core → Ups (lists n es) → ByKey core (lists n es) (taken es)
by_key_run n es core r up =
    let fresh : Shard = record { waiting = []; progress = Fresh } in
    run_keeps Ups ByKey by_key_kept es (start true n) core (replicate n []) [] r up (
      refl,
      record {
        rising = tt;
        behind = each_start (IsBehind key_before key_order []) n (record { waiting = []; progress = Fresh }) (record { gone = []; back = refl; low = tt; reach = tt });
        aligned = λ z. untouched_aligned (ties key_before z) (ClosedAt key_before key_order z) (replicate n (record { waiting = []; progress = Fresh })) (replicate n []) (untouched_start (ties key_before z) n (record { waiting = []; progress = Fresh }) refl);
      },
    )

-- what was taken, and then what waits, in order, is the whole
pub rest_of : Bool → List Shard → List Keyed
rest_of false ss = all_waiting ss
rest_of true ss = ordered_by key_before (all_waiting ss)

pub run_whole : (by_key : Bool) (n : ℕ) (es : List Event) (core : Core) → Run (start by_key n) es core → Rise by_key (lists n es) → (rest : List Keyed) × (taken es ++ rest ≡ whole by_key (lists n es)) × (all_waiting core.shards ≡ [] → rest ≡ [])
run_whole false n es core r up = (all_waiting core.shards, in_order_joined n es core r, λ e. e)
run_whole true n es core r up = (
  ordered_by key_before (all_waiting core.shards),
  merging_whole key_before key_order core.shards (lists n es) (taken es) (by_key_run n es core r (ups_from (lists n es) (recursion_from_All (IsSortedBy key_before) (lists n es) (up refl)))).1,
  λ e. ap (ordered_by key_before) e,
)

pub takes_prefix : TakesPrefix
takes_prefix by_key n events later core r up =
    let w : (rest : List Keyed) × (taken (events ++ later) ++ rest ≡ whole by_key (lists n (events ++ later))) × (all_waiting core.shards ≡ [] → rest ≡ []) = run_whole by_key n (events ++ later) core r up in
    (taken later ++ w.0, sym (append_assoc (taken events) (taken later) w.0) ∙ ap (λ (ys : List Keyed). ys ++ w.0) (sym (taken-append events later)) ∙ w.1)

pub takes_all : TakesAll
takes_all by_key n events core r up over =
    let w : (rest : List Keyed) × (taken events ++ rest ≡ whole by_key (lists n events)) × (all_waiting core.shards ≡ [] → rest ≡ []) = run_whole by_key n events core r up in
    sym (append-nil (taken events)) ∙ ap (λ (ys : List Keyed). taken events ++ ys) (sym (w.2 (all_used core.shards (recursion_from_All (λ s. is_used_up s ≡ true) core.shards (All-from_all_within (λ s. is_used_up s ≡ true) core.shards over))))) ∙ w.1

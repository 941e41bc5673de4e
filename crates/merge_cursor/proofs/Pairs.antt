-- What holds of each shard and its list.
use Rattle.std.proofs.Common.{◌≡◌, ℕ, zero, suc, List, [], ◌∷◌, ◌++◌, refl, subst}
use Rattle.std.specs.Prelude.{Some, slice_get, slice_set, replicate}
use Rattle.std.specs.List.{AllByRecursion}
use Rattle.merge_cursor.specs.declared.item.Keyed.{Keyed}
use Rattle.merge_cursor.specs.declared.shards.Shard.{Shard}
use Rattle.merge_cursor.specs.Laws.{add_to}
use Rattle.merge_cursor.proofs.Aligned.{some_is, all_waiting}
use Rattle.merge_cursor.proofs.Ordered.{all_append}

abbrev pub Each : (Shard → List Keyed → Type 0) → List Shard → List (List Keyed) → Type 0
Each R [] [] = Unit {0}
Each R [] (l ∷ ls) = ⊥
Each R (s ∷ ss) [] = ⊥
Each R (s ∷ ss) (l ∷ ls) = R s l × Each R ss ls

pub each_weaker : (R Q : Shard → List Keyed → Type 0) → ((s : Shard) (l : List Keyed) → R s l → Q s l) → (ss : List Shard) (ls : List (List Keyed)) → Each R ss ls → Each Q ss ls
each_weaker R Q f [] [] h = tt
each_weaker R Q f [] (l ∷ ls) h = absurd h
each_weaker R Q f (s ∷ ss) [] h = absurd h
each_weaker R Q f (s ∷ ss) (l ∷ ls) h = (f s l h.0, each_weaker R Q f ss ls h.1)

-- with what holds of each list, and of each shard
pub each_with : (R : Shard → List Keyed → Type 0) (P : List Keyed → Type 0) (ss : List Shard) (ls : List (List Keyed)) → Each R ss ls → AllByRecursion P ls → Each (λ s l. R s l × P l) ss ls
each_with R P [] [] h a = tt
each_with R P [] (l ∷ ls) h a = absurd h
each_with R P (s ∷ ss) [] h a = absurd h
each_with R P (s ∷ ss) (l ∷ ls) h a = ((h.0, a.0), each_with R P ss ls h.1 a.1)

pub each_shard : (R : Shard → List Keyed → Type 0) (P : Shard → Type 0) (ss : List Shard) (ls : List (List Keyed)) → Each R ss ls → AllByRecursion P ss → Each (λ s l. R s l × P s) ss ls
each_shard R P [] [] h a = tt
each_shard R P [] (l ∷ ls) h a = absurd h
each_shard R P (s ∷ ss) [] h a = absurd h
each_shard R P (s ∷ ss) (l ∷ ls) h a = ((h.0, a.0), each_shard R P ss ls h.1 a.1)

pub each_set : (R : Shard → List Keyed → Type 0) (ss : List Shard) (ls : List (List Keyed)) (i : ℕ) (s t : Shard) → slice_get ss i ≡ Some s → ((l : List Keyed) → slice_get ls i ≡ Some l → R s l → R t l) → Each R ss ls → Each R (slice_set ss i t) ls
each_set R [] ls i s t at f h = h
each_set R (r ∷ ss) [] i s t at f h = absurd h
each_set R (r ∷ ss) (l ∷ ls) zero s t at f h = (f l refl (subst (λ (q : Shard). R q l) (some_is r s at) h.0), h.1)
each_set R (r ∷ ss) (l ∷ ls) (suc i) s t at f h = (h.0, each_set R ss ls i s t at f h.1)

pub each_add : (R : Shard → List Keyed → Type 0) (ss : List Shard) (ls : List (List Keyed)) (i : ℕ) (s t : Shard) (b : List Keyed) → slice_get ss i ≡ Some s → ((l : List Keyed) → slice_get ls i ≡ Some l → R s l → R t (l ++ b)) → Each R ss ls → Each R (slice_set ss i t) (add_to ls i b)
each_add R [] [] i s t b at f h = h
each_add R [] (l ∷ ls) i s t b at f h = absurd h
each_add R (r ∷ ss) [] i s t b at f h = absurd h
each_add R (r ∷ ss) (l ∷ ls) zero s t b at f h = (f l refl (subst (λ (q : Shard). R q l) (some_is r s at) h.0), h.1)
each_add R (r ∷ ss) (l ∷ ls) (suc i) s t b at f h = (h.0, each_add R ss ls i s t b at f h.1)

pub each_start : (R : Shard → List Keyed → Type 0) (n : ℕ) (s : Shard) → R s [] → Each R (replicate n s) (replicate n [])
each_start R zero s h = tt
each_start R (suc n) s h = (h, each_start R n s h)

-- at the i-th
pub each_at : (R : Shard → List Keyed → Type 0) (ss : List Shard) (ls : List (List Keyed)) (i : ℕ) (s : Shard) → slice_get ss i ≡ Some s → Each R ss ls → (l : List Keyed) × R s l
each_at R [] ls i s at h = absurd cc
each_at R (r ∷ ss) [] i s at h = absurd h
each_at R (r ∷ ss) (l ∷ ls) zero s at h = (l, subst (λ (q : Shard). R q l) (some_is r s at) h.0)
each_at R (r ∷ ss) (l ∷ ls) (suc i) s at h = each_at R ss ls i s at h.1

-- what holds of all that waits
pub each_waiting : (P : Keyed → Type 0) (ss : List Shard) (ls : List (List Keyed)) → Each (λ s l. AllByRecursion P s.waiting) ss ls → AllByRecursion P (all_waiting ss)
each_waiting P [] ls h = tt
each_waiting P (s ∷ ss) [] h = absurd h
each_waiting P (s ∷ ss) (l ∷ ls) h = all_append P s.waiting (all_waiting ss) h.0 (each_waiting P ss ls h.1)

some_list : (x y : List Keyed) → Some x ≡ Some y → x ≡ y
some_list x y e = cc

pub at_added : (P : List Keyed → Type 0) (ls : List (List Keyed)) (i : ℕ) (l b : List Keyed) → slice_get ls i ≡ Some l → AllByRecursion P (add_to ls i b) → P (l ++ b)
at_added P [] i l b at h = absurd cc
at_added P (k ∷ ls) zero l b at h = subst (λ (q : List Keyed). P (q ++ b)) (some_list k l at) h.0
at_added P (k ∷ ls) (suc i) l b at h = at_added P ls i l b at h.1

pub all_added : (P : List Keyed → Type 0) → ((l b : List Keyed) → P (l ++ b) → P l) → (ls : List (List Keyed)) (i : ℕ) (b : List Keyed) → AllByRecursion P (add_to ls i b) → AllByRecursion P ls
all_added P f [] i b h = tt
all_added P f (l ∷ ls) zero b h = (f l b h.0, h.1)
all_added P f (l ∷ ls) (suc i) b h = (h.0, all_added P f ls i b h.1)

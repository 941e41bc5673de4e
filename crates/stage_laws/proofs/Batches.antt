-- The lists that shards gave, event by event.
use Rattle.std.proofs.Common.{◌≡◌, ℕ, zero, suc, ◌<◌, ◌≤◌, cond, eqb, List, [], ◌∷◌, ◌++◌, length, refl, sym, ap, ◌∙◌, arith, append_assoc, append-nil}
use Rattle.std.specs.Prelude.{Some, slice_get, replicate}
use Rattle.std.specs.List.{flat_map}
use Rattle.std.proofs.Math.Dec.{eqb-zero-suc, eqb-suc-zero, eqb-suc-suc}
use Rattle.std.proofs.lemmas.List.{length-replicate}
use Rattle.merge_cursor.specs.declared.item.Keyed.{Keyed}
use Rattle.merge_cursor.specs.Laws.{add_to, given, lists}
use Rattle.merge_cursor.specs.Schedule.{Event, asks, arrives, ends, takes}
use Rattle.stage_laws.specs.Batches.{brings}

abbrev Lists : Type 0
Lists = List (List Keyed)

added-length : (ls : Lists) (i : ℕ) (b : List Keyed) → length (add_to ls i b) ≡ length ls
added-length [] i b = refl
added-length (l ∷ ls) zero b = refl
added-length (l ∷ ls) (suc i) b = ap suc (added-length ls i b)

given-length : (es : List Event) (ls : Lists) → length (given es ls) ≡ length ls
given-length [] ls = refl
given-length (asks i ∷ es) ls = given-length es ls
given-length (arrives i b ∷ es) ls = given-length es (add_to ls i b) ∙ added-length ls i b
given-length (ends i f ∷ es) ls = given-length es ls
given-length (takes x ∷ es) ls = given-length es ls

pub count : (n : ℕ) (es : List Event) → length (lists n es) ≡ n
count n es = given-length es (replicate n []) ∙ length-replicate n []

-- ---- the i-th list

some_same : (k l : List Keyed) → Some k ≡ Some l → k ≡ l
some_same k l e = cc

-- the batch of one shard is added to its list alone
added_at : (ls : Lists) (i j : ℕ) (l b : List Keyed) → slice_get ls i ≡ Some l → slice_get (add_to ls j b) i ≡ Some (l ++ cond (eqb i j) b [])
added_at [] i j l b e = absurd cc
added_at (k ∷ ls) zero zero l b e = ap (λ (q : List Keyed). Some (q ++ b)) (some_same k l e)
added_at (k ∷ ls) zero (suc j) l b e = rw (eqb-zero-suc j) (e ∙ ap (λ (q : List Keyed). Some q) (sym (append-nil l)))
added_at (k ∷ ls) (suc i) zero l b e = rw (eqb-suc-zero i) (e ∙ ap (λ (q : List Keyed). Some q) (sym (append-nil l)))
added_at (k ∷ ls) (suc i) (suc j) l b e = rw (eqb-suc-suc i j) (added_at ls i j l b e)

given_at : (es : List Event) (ls : Lists) (i : ℕ) (l : List Keyed) → slice_get ls i ≡ Some l → slice_get (given es ls) i ≡ Some (l ++ flat_map (brings i) es)
given_at [] ls i l e = e ∙ ap (λ (q : List Keyed). Some q) (sym (append-nil l))
given_at (asks j ∷ es) ls i l e = given_at es ls i l e
given_at (arrives j b ∷ es) ls i l e =
    given_at es (add_to ls j b) i (l ++ cond (eqb i j) b []) (added_at ls i j l b e) ∙ ap (λ (q : List Keyed). Some q) (append_assoc l (cond (eqb i j) b []) (flat_map (brings i) es))
given_at (ends j f ∷ es) ls i l e = given_at es ls i l e
given_at (takes x ∷ es) ls i l e = given_at es ls i l e

none_yet : (n i : ℕ) → i < n → slice_get (replicate n (let none : List Keyed = [] in none)) i ≡ Some []
none_yet zero i lt = absurd (omega arith)
none_yet (suc n) zero lt = refl
none_yet (suc n) (suc i) lt = none_yet n i (omega arith)

pub each : (n i : ℕ) (es : List Event) → i < n → slice_get (lists n es) i ≡ Some (flat_map (brings i) es)
each n i es lt = given_at es (replicate n []) i [] (none_yet n i lt)

-- ---- a shard that there is not

added_past : (ls : Lists) (i : ℕ) (b : List Keyed) → length ls ≤ i → add_to ls i b ≡ ls
added_past [] i b le = refl
added_past (l ∷ ls) zero b le = absurd (omega arith)
added_past (l ∷ ls) (suc i) b le = ap (λ (ks : Lists). l ∷ ks) (added_past ls i b (omega arith))

given_past : (front back : List Event) (ls : Lists) (i : ℕ) (b : List Keyed) → length ls ≤ i → given (front ++ arrives i b ∷ back) ls ≡ given (front ++ back) ls
given_past [] back ls i b le = ap (given back) (added_past ls i b le)
given_past (asks j ∷ front) back ls i b le = given_past front back ls i b le
given_past (arrives j a ∷ front) back ls i b le = given_past front back (add_to ls j a) i b (omega (arith, added-length ls j a))
given_past (ends j f ∷ front) back ls i b le = given_past front back ls i b le
given_past (takes x ∷ front) back ls i b le = given_past front back ls i b le

pub none : (n i : ℕ) (front back : List Event) (b : List Keyed) → n ≤ i → lists n (front ++ arrives i b ∷ back) ≡ lists n (front ++ back)
none n i front back b le = given_past front back (replicate n []) i b (omega (arith, length-replicate n (let none : List Keyed = [] in none)))

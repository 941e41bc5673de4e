-- What an array and a document hold, read back, and an array item by item.
use Rattle.std.proofs.Common.{◌≡◌, ℕ, suc, ◌+◌, ◌-◌, ◌<◌, ◌≤◌, min, Bool, true, false, ◌||◌, List, [], ◌∷◌, ◌++◌, length, take, drop, reverse, slice_range, refl, sym, ap, ◌∙◌, arith, append_assoc, length-drop}
use Rattle.std.specs.Prelude.{Some, slice_get}
use Rattle.std.specs.List.{list_any}
use Rattle.std.proofs.Common.{inl, inr}
use Rattle.std.proofs.Math.Seq.{take-suc}
use Rattle.std.proofs.Math.Nat.{sub-zero}
use Rattle.std.proofs.Math.ListN.{drop_of_length-le}
use Rattle.std.proofs.lemmas.Bool.{cases_lt}
use Rattle.std.proofs.lemmas.List.{drop_more, append-nil, length-reverse, get_or-reverse, take_min, take_all}
use Rattle.std.proofs.lemmas.Option.{slice_get_within, get_or_from_slice_get, slice_get-get_or}
use Rattle.bson_value.specs.Tree.{Tree, pairs_of, trees_of, entries, members}

pub members_trees : (ts : List Tree) → members (trees_of ts) ≡ ts
members_trees [] = refl
members_trees (t ∷ ts) = ap (λ us. t ∷ us) (members_trees ts)

pub entries_pairs : (ps : List (List ℕ × Tree)) → entries (pairs_of ps) ≡ ps
entries_pairs [] = refl
entries_pairs (p ∷ ps) = ap (λ qs. p ∷ qs) (entries_pairs ps)

-- from a place on
pub from_here : {X : Type 0} (xs : List X) (i : ℕ) (x : X) → slice_get xs i ≡ Some x → drop i xs ≡ x ∷ drop (i + 1) xs
from_here xs i x e =
    drop_more xs i x (slice_get_within xs i x e) ∙ ap (λ y. y ∷ drop (i + 1) xs) (get_or_from_slice_get xs i x x e)

-- an item that passes, and one that doesn't
pub any_here : {X : Type 0} (p : X → Bool) (xs : List X) (i : ℕ) (x : X) → slice_get xs i ≡ Some x → p x ≡ true → true ≡ list_any p (drop i xs)
any_here p xs i x e passes = sym (ap (list_any p) (from_here xs i x e) ∙ ap (λ (b : Bool). b || list_any p (drop (i + 1) xs)) passes)

pub any_later : {X : Type 0} (p : X → Bool) (xs : List X) (i : ℕ) (x : X) → slice_get xs i ≡ Some x → p x ≡ false → list_any p (drop (i + 1) xs) ≡ list_any p (drop i xs)
any_later p xs i x e fails = sym (ap (list_any p) (from_here xs i x e) ∙ ap (λ (b : Bool). b || list_any p (drop (i + 1) xs)) fails)

-- copies in front, and one more
pub taken_more : {X : Type 0} (fs ks xs us : List X) (i : ℕ) (x : X) → ks ≡ fs ++ take i xs → slice_get xs i ≡ Some x → us ≡ ks ++ x ∷ [] → us ≡ fs ++ take (i + 1) xs
taken_more fs ks xs us i x before e more =
    let n : i + 1 ≡ suc i = omega arith in
    more ∙ ap (λ ys. ys ++ x ∷ []) before ∙ append_assoc fs (take i xs) (x ∷ [])
    ∙ ap (λ ys. fs ++ ys) (sym (ap (λ (k : ℕ). take k xs) n ∙ take-suc xs i x (slice_get_within xs i x e) ∙ ap (λ y. take i xs ++ y ∷ []) (get_or_from_slice_get xs i x x e)))

-- copies of a part, and one more
pub part_more : {X : Type 0} (ks xs us : List X) (i to : ℕ) (x : X) → i < to → slice_get xs i ≡ Some x → us ≡ ks ++ x ∷ [] → us ++ slice_range xs (i + 1) to ≡ ks ++ slice_range xs i to
part_more ks xs us i to x lt e more =
    let n : to - i ≡ suc (to - (i + 1)) = omega arith in
    ap (λ ys. ys ++ slice_range xs (i + 1) to) more ∙ append_assoc ks (x ∷ []) (slice_range xs (i + 1) to)
    ∙ ap (λ ys. ks ++ ys) (sym (ap (take (to - i)) (from_here xs i x e) ∙ ap (λ (k : ℕ). take k (x ∷ drop (i + 1) xs)) n))

pub part_done : {X : Type 0} (ks xs : List X) (i to : ℕ) → to ≤ i → ks ++ slice_range xs i to ≡ ks
part_done ks xs i to le =
    let n : to - i ≡ 0 = omega arith in
    ap (λ (k : ℕ). ks ++ take k (drop i xs)) n ∙ append-nil ks

pub reversed_at : {X : Type 0} (xs : List X) (i : ℕ) (x : X) → i < length xs → slice_get xs (length xs - 1 - i) ≡ Some x → slice_get (reverse xs) i ≡ Some x
reversed_at xs i x lt e =
    let within : i < length (reverse xs) = rw (length-reverse xs) lt in
    slice_get-get_or (reverse xs) i x within ∙ ap Some (get_or-reverse xs i x lt ∙ get_or_from_slice_get xs (length xs - 1 - i) x x e)

-- parts whose edges are kept within the list
pub front_range : {X : Type 0} (xs : List X) (n : ℕ) → slice_range xs 0 (min n (length xs)) ≡ take n xs
front_range xs n = ap (λ (k : ℕ). take k xs) (sub-zero (min n (length xs))) ∙ take_min n xs

drop_min : {X : Type 0} (xs : List X) (n : ℕ) → drop (min n (length xs)) xs ≡ drop n xs
drop_min xs n =
    elim (cases_lt n (length xs)) [
      | inl h ↦ let k : min n (length xs) ≡ n = omega (arith, h) in ap (λ (j : ℕ). drop j xs) k
      | inr h ↦ drop_of_length-le xs (omega (arith, h)) ∙ sym (drop_of_length-le xs h)
    ]

pub back_range : {X : Type 0} (xs : List X) (n : ℕ) → slice_range xs (min n (length xs)) (length xs) ≡ drop n xs
back_range xs n =
    take_all (length xs - min n (length xs)) (drop (min n (length xs)) xs) (omega (arith, length-drop (min n (length xs)) xs)) ∙ drop_min xs n

pub middle_range : {X : Type 0} (xs : List X) (s n from : ℕ) → from ≡ min s (length xs) → slice_range xs from (from + min n (length xs - from)) ≡ take n (drop s xs)
middle_range xs s n from is =
    let k : from + min n (length xs - from) - from ≡ min n (length (drop from xs)) = omega (arith, length-drop from xs) in
    ap (λ (j : ℕ). take j (drop from xs)) k ∙ take_min n (drop from xs) ∙ ap (λ (j : ℕ). take n (drop j xs)) is ∙ ap (take n) (drop_min xs s)

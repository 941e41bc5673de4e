-- Shards in the order of their names: the stable rearrangement, and the only one.
use Rattle.std.proofs.Common.{◌≡◌, ℕ, zero, suc, ◌+◌, ◌≤◌, Bool, true, false, cond, List, [], ◌∷◌, length, get_or, refl, sym, ap, subst, ◌∙◌, arith}
use Rattle.std.specs.Prelude.{Some, slice_get, ◌&&◌, not, filter}
use Rattle.std.specs.Cmp.{IsStrictWeakOrder}
use Rattle.std.specs.List.{AllByRecursion}
use Rattle.std.specs.List.Sorted.{ties, IsSortedBy, IsStableBy, IsPartitionedBy}
use Rattle.std.specs.Ordering.{is_lt}
use Rattle.std.specs.Str.{bytes_eq}
use Rattle.std.proofs.lemmas.List.Elements.{recursion_from_All}
use Rattle.std.proofs.lemmas.List.MinMax.{ranks_by}
use Rattle.std.proofs.lemmas.List.Sorted.{sorted_far}
use Rattle.std.proofs.lemmas.Cmp.{nat_list_cmp_total}
use Rattle.std.proofs.lemmas.Map.Text.{is_eq-slice_cmp}
use Rattle.bson_value.specs.Order.{bytes_order}
use Rattle.chunk_map.specs.Table.{ShardRow}
use Rattle.chunk_map.specs.Form.{name_before, put_by_name, by_name, place_of}
use Rattle.chunk_map.specs.Sound.{AreInOrder}
use Rattle.chunk_map.proofs.Listed.{some_is}
use Rattle.chunk_map.proofs.Orders.{IsCut, not_lt, lt_ne, gt_ne, is_above, lt_trans, trans_lt}

all_weaker : {X : Type 0} (P Q : X → Type 0) → ((x : X) → P x → Q x) → (xs : List X) → AllByRecursion P xs → AllByRecursion Q xs
all_weaker P Q f [] h = tt
all_weaker P Q f (x ∷ xs) h = (f x h.0, all_weaker P Q f xs h.1)

all_filter : {X : Type 0} (P : X → Type 0) (p : X → Bool) (xs : List X) → AllByRecursion P xs → AllByRecursion P (filter p xs)
all_filter P p [] h = tt
all_filter P p (x ∷ xs) h =
    elim (p x) as (λ b. AllByRecursion P (cond b (x ∷ filter p xs) (filter p xs))) [
      | true ↦ (h.0, all_filter P p xs h.1)
      | false ↦ all_filter P p xs h.1
    ]

both_false : (a b : Bool) → a ≡ false → b ≡ false → (not a && not b) ≡ true
both_false a b e f = rw (e, f) refl

tied_parts : (a b : Bool) → (not a && not b) ≡ true → (a ≡ false) × (b ≡ false)
tied_parts false false e = (refl, refl)
tied_parts false true e = absurd cc
tied_parts true b e = absurd cc

false_true : (b : Bool) → b ≡ false → b ≡ true → ⊥
false_true b e f = cc

pub name_order : IsStrictWeakOrder name_before
name_order = ranks_by nat_list_cmp_total (λ (s : ShardRow). s.name)

-- none of them is before x
abbrev pub Low : ShardRow → List ShardRow → Type 0
Low x ys = AllByRecursion (λ y. name_before y x ≡ false) ys

abbrev pub Rising : List ShardRow → Type 0
Rising [] = Unit {0}
Rising (x ∷ xs) = Low x xs × Rising xs

pub not_self : (x : ShardRow) → name_before x x ≡ false
not_self x =
    elim (name_before x x) as (λ b. name_before x x ≡ b → b ≡ false) [
      | true ↦ λ e. sym e ∙ name_order.one_way x x e
      | false ↦ λ e. refl
    ] refl

pub ties_is : (x y : ShardRow) → name_before x y ≡ false → name_before y x ≡ false → ties name_before x y ≡ true
ties_is x y e f = both_false (name_before x y) (name_before y x) e f

pub ties_says : (x y : ShardRow) → ties name_before x y ≡ true → (name_before x y ≡ false) × (name_before y x ≡ false)
ties_says x y e = tied_parts (name_before x y) (name_before y x) e

pub low_chain : (x y : ShardRow) (ys : List ShardRow) → name_before y x ≡ false → Low y ys → Low x ys
low_chain x y ys e h = all_weaker (λ w. name_before w y ≡ false) (λ w. name_before w x ≡ false) (λ w k. name_order.chain w y x k e) ys h

put_all : (P : ShardRow → Type 0) (x : ShardRow) (ys : List ShardRow) → P x → AllByRecursion P ys → AllByRecursion P (put_by_name x ys)
put_all P x [] p h = (p, tt)
put_all P x (y ∷ ys) p h =
    elim (name_before y x) as (λ b. AllByRecursion P (cond b (y ∷ put_by_name x ys) (x ∷ y ∷ ys))) [
      | true ↦ (h.0, put_all P x ys p h.1)
      | false ↦ (p, h)
    ]

put_rising : (x : ShardRow) (ys : List ShardRow) → Rising ys → Rising (put_by_name x ys)
put_rising x [] h = (tt, tt)
put_rising x (y ∷ ys) h =
    elim (name_before y x) as (λ b. name_before y x ≡ b → Rising (cond b (y ∷ put_by_name x ys) (x ∷ y ∷ ys))) [
      | true ↦ λ e. (put_all (λ w. name_before w y ≡ false) x ys (name_order.one_way y x e) h.0, put_rising x ys h.1)
      | false ↦ λ e. ((e, low_chain x y ys e h.0), h)
    ] refl

pub by_name_rising : (xs : List ShardRow) → Rising (by_name xs)
by_name_rising [] = tt
by_name_rising (x ∷ xs) = put_rising x (by_name xs) (by_name_rising xs)

swap_filter : (b c : Bool) (x y : ShardRow) (us vs ws : List ShardRow) → ((b ≡ true) → (c ≡ true) → ⊥) → us ≡ cond c (x ∷ vs) vs → cond b (y ∷ us) us ≡ cond c (x ∷ cond b (y ∷ vs) vs) (cond b (y ∷ vs) vs)
swap_filter true true x y us vs ws n e = absurd (n refl refl)
swap_filter true false x y us vs ws n e = ap (λ (zs : List ShardRow). y ∷ zs) e
swap_filter false true x y us vs ws n e = e
swap_filter false false x y us vs ws n e = e

put_filter : (z x : ShardRow) (ys : List ShardRow) → filter (ties name_before z) (put_by_name x ys) ≡ filter (ties name_before z) (x ∷ ys)
put_filter z x [] = refl
put_filter z x (y ∷ ys) =
    elim (name_before y x) as (λ b. name_before y x ≡ b → filter (ties name_before z) (cond b (y ∷ put_by_name x ys) (x ∷ y ∷ ys)) ≡ filter (ties name_before z) (x ∷ y ∷ ys)) [
      | true ↦ λ e. swap_filter (ties name_before z y) (ties name_before z x) x y (filter (ties name_before z) (put_by_name x ys)) (filter (ties name_before z) ys) [] (λ p q. false_true (name_before y x) (name_order.chain y z x (ties_says z y p).1 (ties_says z x q).0) e) (put_filter z x ys)
      | false ↦ λ e. refl
    ] refl

pub by_name_filter : (z : ShardRow) (xs : List ShardRow) → filter (ties name_before z) (by_name xs) ≡ filter (ties name_before z) xs
by_name_filter z [] = refl
by_name_filter z (x ∷ xs) = put_filter z x (by_name xs) ∙ ap (λ (ys : List ShardRow). cond (ties name_before z x) (x ∷ ys) ys) (by_name_filter z xs)

same_tail : (b : Bool) (x : ShardRow) (us vs : List ShardRow) → cond b (x ∷ us) us ≡ cond b (x ∷ vs) vs → us ≡ vs
same_tail true x us vs e = cc
same_tail false x us vs e = e

-- the first of ys is not before the first of xs, where ys has that of xs
first_low : (x y : ShardRow) (xs ys : List ShardRow) → Rising (y ∷ ys) → filter (ties name_before x) (x ∷ xs) ≡ filter (ties name_before x) (y ∷ ys) → name_before x y ≡ false
first_low x y xs ys h e =
    let all : AllByRecursion (λ w. name_before w y ≡ false) (y ∷ ys) = (not_self y, h.0) in
    let kept : AllByRecursion (λ w. name_before w y ≡ false) (filter (ties name_before x) (x ∷ xs)) = subst (AllByRecursion (λ w. name_before w y ≡ false)) (sym e) (all_filter (λ w. name_before w y ≡ false) (ties name_before x) (y ∷ ys) all) in
    (subst (λ (b : Bool). AllByRecursion (λ w. name_before w y ≡ false) (cond b (x ∷ filter (ties name_before x) xs) (filter (ties name_before x) xs))) (ties_is x x (not_self x) (not_self x)) kept).0

-- two lists that rise, and have the same elements of each key in the same order, are the same
pub rising_same : (xs ys : List ShardRow) → Rising xs → Rising ys → ((z : ShardRow) → filter (ties name_before z) xs ≡ filter (ties name_before z) ys) → xs ≡ ys
rising_same [] [] h k f = refl
rising_same [] (y ∷ ys) h k f =
    absurd (let e : [] ≡ y ∷ filter (ties name_before y) ys = f y ∙ ap (λ (b : Bool). cond b (y ∷ filter (ties name_before y) ys) (filter (ties name_before y) ys)) (ties_is y y (not_self y) (not_self y)) in cc)
rising_same (x ∷ xs) [] h k f =
    absurd (let e : [] ≡ x ∷ filter (ties name_before x) xs = sym (f x) ∙ ap (λ (b : Bool). cond b (x ∷ filter (ties name_before x) xs) (filter (ties name_before x) xs)) (ties_is x x (not_self x) (not_self x)) in cc)
rising_same (x ∷ xs) (y ∷ ys) h k f =
    let xy : name_before x y ≡ false = first_low x y xs ys k (f x) in
    let yx : name_before y x ≡ false = first_low y x ys xs h (sym (f y)) in
    let left : filter (ties name_before x) (x ∷ xs) ≡ x ∷ filter (ties name_before x) xs = ap (λ (b : Bool). cond b (x ∷ filter (ties name_before x) xs) (filter (ties name_before x) xs)) (ties_is x x (not_self x) (not_self x)) in
    let right : filter (ties name_before x) (y ∷ ys) ≡ y ∷ filter (ties name_before x) ys = ap (λ (b : Bool). cond b (y ∷ filter (ties name_before x) ys) (filter (ties name_before x) ys)) (ties_is x y xy yx) in
    let heads : x ∷ filter (ties name_before x) xs ≡ y ∷ filter (ties name_before x) ys = sym left ∙ f x ∙ right in
    let e : x ≡ y = cc in
    let tails : xs ≡ ys = rising_same xs ys h.1 k.1 (λ z. same_tail (ties name_before z x) x (filter (ties name_before z) xs) (filter (ties name_before z) ys) (f z ∙ ap (λ (w : ShardRow). cond (ties name_before z w) (w ∷ filter (ties name_before z) ys) (filter (ties name_before z) ys)) (sym e))) in
    cc

low_from : (x : ShardRow) (xs : List ShardRow) → AreInOrder (x ∷ xs) → Low x xs
low_from x xs h = recursion_from_All (λ y. name_before y x ≡ false) xs (λ k d high. sorted_far name_before name_order (x ∷ xs) h 0 (suc k) d (omega arith) (omega arith))

pub rising_from : (xs : List ShardRow) → AreInOrder xs → Rising xs
rising_from [] h = tt
rising_from (x ∷ xs) h =
    (low_from x xs h, rising_from xs (λ k d low high. let e : suc k + 1 ≡ suc (k + 1) = omega arith in subst (λ (j : ℕ). name_before (get_or (x ∷ xs) j d) (get_or xs k d) ≡ false) e (h (suc k) d (omega arith) (omega arith))))

-- what a stable sort by name gives
pub sorted_by_name : (old new : List ShardRow) → IsSortedBy name_before new → IsStableBy name_before old new → new ≡ by_name old
sorted_by_name old new up same = rising_same new (by_name old) (rising_from new up) (by_name_rising old) (λ z. same z ∙ sym (by_name_filter z old))

-- ---- where a name stands

abbrev pub is_below : List ℕ → ShardRow → Bool
is_below name s = is_lt (bytes_order s.name name)

pub names_parted : (name : List ℕ) (ss : List ShardRow) → AreInOrder ss → IsPartitionedBy (is_below name) ss
names_parted name ss h i j d le high e = trans_lt nat_list_cmp_total (get_or ss i d).name (get_or ss j d).name name (not_lt nat_list_cmp_total (get_or ss j d).name (get_or ss i d).name (sorted_far name_before name_order ss h i j d le high)) e

below_differs : (name : List ℕ) (s : ShardRow) → is_below name s ≡ true → bytes_eq s.name name ≡ false
below_differs name s e = sym (is_eq-slice_cmp s.name name) ∙ lt_ne nat_list_cmp_total s.name name e

above_differs : (name : List ℕ) (s : ShardRow) → is_lt (bytes_order name s.name) ≡ true → bytes_eq s.name name ≡ false
above_differs name s e = sym (is_eq-slice_cmp s.name name) ∙ gt_ne nat_list_cmp_total name s.name e

-- none of the later ones has the name
none_named : (name : List ℕ) (x : ShardRow) (ss : List ShardRow) → is_lt (bytes_order name x.name) ≡ true → Low x ss → place_of name ss ≡ length ss
none_named name x [] e h = refl
none_named name x (s ∷ ss) e h =
    let up : is_lt (bytes_order name s.name) ≡ true = lt_trans nat_list_cmp_total name x.name s.name e (not_lt nat_list_cmp_total s.name x.name h.0) in
    rw (above_differs name s up) (ap suc (none_named name x ss e h.1))

pub place_found : (name : List ℕ) (ss : List ShardRow) (i : ℕ) (s : ShardRow) → IsCut (is_below name) ss i → slice_get ss i ≡ Some s → bytes_eq s.name name ≡ true → place_of name ss ≡ i
place_found name [] i s cut g e = absurd cc
place_found name (x ∷ ss) zero s cut g e = let same : x ≡ s = some_is x s g in rw (same, e) refl
place_found name (x ∷ ss) (suc i) s cut g e = rw (below_differs name x cut.0) (ap suc (place_found name ss i s cut.1 g e))

-- x isn't below the name and doesn't have it
above : (name : List ℕ) (x : ShardRow) → is_below name x ≡ false → bytes_eq x.name name ≡ false → is_lt (bytes_order name x.name) ≡ true
above name x e f = is_above nat_list_cmp_total x.name name e (is_eq-slice_cmp x.name name ∙ f)

pub place_none : (name : List ℕ) (ss : List ShardRow) (i : ℕ) → Rising ss → IsCut (is_below name) ss i → ((s : ShardRow) → slice_get ss i ≡ Some s → bytes_eq s.name name ≡ false) → place_of name ss ≡ length ss
place_none name [] i up cut none = refl
place_none name (x ∷ ss) zero up cut none =
    let e : bytes_eq x.name name ≡ false = none x refl in
    rw e (ap suc (none_named name x ss (above name x cut.0 e) up.0))
place_none name (x ∷ ss) (suc i) up cut none = rw (below_differs name x cut.0) (ap suc (place_none name ss i up.1 cut.1 none))

pub place_most : (name : List ℕ) (ss : List ShardRow) → place_of name ss ≤ length ss
place_most name [] = omega arith
place_most name (s ∷ ss) = elim (bytes_eq s.name name) as (λ b. cond b 0 (suc (place_of name ss)) ≤ suc (length ss)) [ true ↦ omega arith | false ↦ omega (arith, place_most name ss) ]

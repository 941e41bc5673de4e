-- Documents of the fields that paths name.
use Rattle.std.proofs.Common.{◌≡◌, ℕ, ◌+◌, ◌<◌, ◌==◌, Bool, true, false, cond, List, [], ◌∷◌, ◌++◌, length, take, get_or, refl, sym, ap, ◌∙◌, arith, add-one, subst, append_assoc, append-nil}
use Rattle.std.specs.Prelude.{Option, None, Some, Vec, ◌||◌}
use Rattle.std.specs.Option.{option_map_or, option_copied}
use Rattle.std.specs.List.{list_any}
use Rattle.std.specs.Ordering.{nat_cmp}
use Rattle.std.specs.Cmp.Lexicographic.{slice_cmp}
use Rattle.std.specs.Str.{bytes_eq}
use Rattle.std.specs.BTreeMap.{BTreeMap, UpdatesBy, get_by}
use Rattle.std.proofs.Math.Seq.{take-suc}
use Rattle.std.proofs.lemmas.Bool.Decides.{nat_tests}
use Rattle.std.proofs.lemmas.Slice.Eq.{bytes_eq-Decides}
use Rattle.std.proofs.lemmas.Map.Text.{btree_map_updates_str}
use denote.Ref.{Bor}
use Rattle.bson_value.specs.Tree.{Tree, leaf, doc, list, Pairs, no_pairs, pair, Trees, no_trees, tree, pairs_of, trees_of, entries, members}
use Rattle.bson_value.specs.Pairs.{find}
use Rattle.bson_value.specs.Proper.{IsDoc}
use Rattle.bson_value.specs.Paths.{Steps, behind, rest_behind, kept, is_end, keep_pairs, keep_part, keep_docs, field_before}
use Rattle.doc_path.specs.Kept.{steps_in, rests_in, left_of, kept_by, doc_kept_by, docs_kept_by, tree_before}
use Rattle.doc_path.proofs.Steps.{entries_pairs}

-- ---- names that are there once

abbrev pub AreApart : List (List ℕ × Tree) → Type 0
AreApart [] = Unit {0}
AreApart (p ∷ ps) = (find p.0 ps ≡ None) × AreApart ps

pub apart_doc : (ps : List (List ℕ × Tree)) → IsDoc ps → AreApart ps
apart_doc [] h = tt
apart_doc (p ∷ ps) h = (ap (find p.0) (sym (entries_pairs ps)) ∙ h.1, apart_doc ps h.3)

none_rest : (b : Bool) (t : Tree) (o o' : Option Tree) → cond b (Some t) o ≡ None → (o ≡ None → o' ≡ None) → cond b (Some t) o' ≡ None
none_rest true t o o' e f = absurd cc
none_rest false t o o' e f = f e

none_other : (b : Bool) (t u : Tree) (o : Option Tree) → cond b (Some t) o ≡ None → cond b (Some u) o ≡ None
none_other true t u o e = absurd cc
none_other false t u o e = e

not_first : (b : Bool) (t : Tree) (o : Option Tree) → cond b (Some t) o ≡ None → b ≡ false
not_first true t o e = absurd cc
not_first false t o e = refl

not_later : (b : Bool) (t : Tree) (o : Option Tree) → cond b (Some t) o ≡ None → o ≡ None
not_later true t o e = absurd cc
not_later false t o e = e

find_without : (n : List ℕ) (xs : List (List ℕ × Tree)) (p : List ℕ × Tree) (ys : List (List ℕ × Tree)) → find n (xs ++ p ∷ ys) ≡ None → find n (xs ++ ys) ≡ None
find_without n [] p ys e = not_later (bytes_eq p.0 n) p.1 (find n ys) e
find_without n (x ∷ xs) p ys e = none_rest (bytes_eq x.0 n) x.1 (find n (xs ++ p ∷ ys)) (find n (xs ++ ys)) e (find_without n xs p ys)

find_changed : (m : List ℕ) (xs : List (List ℕ × Tree)) (n : List ℕ) (t u : Tree) (ys : List (List ℕ × Tree)) → find m (xs ++ (n, t) ∷ ys) ≡ None → find m ((xs ++ (n, u) ∷ []) ++ ys) ≡ None
find_changed m [] n t u ys e = none_other (bytes_eq n m) t u (find m ys) e
find_changed m (x ∷ xs) n t u ys e = none_rest (bytes_eq x.0 m) x.1 (find m (xs ++ (n, t) ∷ ys)) (find m ((xs ++ (n, u) ∷ []) ++ ys)) e (find_changed m xs n t u ys)

find_differs : (m : List ℕ) (xs : List (List ℕ × Tree)) (n : List ℕ) (t : Tree) (ys : List (List ℕ × Tree)) → find m (xs ++ (n, t) ∷ ys) ≡ None → bytes_eq n m ≡ false
find_differs m [] n t ys e = not_first (bytes_eq n m) t (find m ys) e
find_differs m (x ∷ xs) n t ys e = find_differs m xs n t ys (not_later (bytes_eq x.0 m) x.1 (find m (xs ++ (n, t) ∷ ys)) e)

differs_back : (n m : List ℕ) → bytes_eq n m ≡ false → bytes_eq m n ≡ false
differs_back n m e =
    elim (bytes_eq m n) as (λ c. bytes_eq m n ≡ c → c ≡ false) [
      | true ↦ λ h. sym ((bytes_eq-Decides n m).1 (sym ((bytes_eq-Decides m n).0 h))) ∙ e
      | false ↦ λ h. refl
    ] refl

passes : (b : Bool) (t : Tree) (o : Option Tree) → b ≡ false → o ≡ None → cond b (Some t) o ≡ None
passes true t o e h = absurd cc
passes false t o e h = h

pub apart_without : (xs : List (List ℕ × Tree)) (p : List ℕ × Tree) (ys : List (List ℕ × Tree)) → AreApart (xs ++ p ∷ ys) → AreApart (xs ++ ys)
apart_without [] p ys h = h.1
apart_without (x ∷ xs) p ys h = (find_without x.0 xs p ys h.0, apart_without xs p ys h.1)

pub apart_changed : (xs : List (List ℕ × Tree)) (n : List ℕ) (t u : Tree) (ys : List (List ℕ × Tree)) → AreApart (xs ++ (n, t) ∷ ys) → AreApart ((xs ++ (n, u) ∷ []) ++ ys)
apart_changed [] n t u ys h = h
apart_changed (x ∷ xs) n t u ys h = (find_changed x.0 xs n t u ys h.0, apart_changed xs n t u ys h.1)

pub apart_front : (xs : List (List ℕ × Tree)) (n : List ℕ) (t : Tree) (ys : List (List ℕ × Tree)) → AreApart (xs ++ (n, t) ∷ ys) → find n xs ≡ None
apart_front [] n t ys h = refl
apart_front (x ∷ xs) n t ys h = passes (bytes_eq x.0 n) x.1 (find n xs) (differs_back n x.0 (find_differs x.0 xs n t ys h.0)) (apart_front xs n t ys h.1)

-- a field's value is kept, changed or dropped
pub apart_more : (xs : List (List ℕ × Tree)) (n : List ℕ) (t : Tree) (o : Option Tree) (ys : List (List ℕ × Tree)) → AreApart (xs ++ (n, t) ∷ ys) → AreApart ((xs ++ entries (field_before n o no_pairs)) ++ ys)
apart_more xs n t None ys h = rw append_assoc (apart_without xs (n, t) ys h)
apart_more xs n t (Some u) ys h = apart_changed xs n t u ys h

-- ---- paths by their first step

kept-append : {A : Type 0} (o : Option A) (ts us : List A) → kept o (ts ++ us) ≡ kept o ts ++ us
kept-append None ts us = refl
kept-append (Some t) ts us = refl

behind-append : (n : List ℕ) (ps qs : List Steps) → behind n (ps ++ qs) ≡ behind n ps ++ behind n qs
behind-append n [] qs = refl
behind-append n (p ∷ ps) qs = ap (kept (rest_behind n p)) (behind-append n ps qs) ∙ kept-append (rest_behind n p) (behind n ps) (behind n qs)

pub steps_in-append : (ps qs : List (Bor Steps)) → steps_in (ps ++ qs) ≡ steps_in ps ++ steps_in qs
steps_in-append [] qs = refl
steps_in-append (p ∷ ps) qs = ap (λ l. p.now ∷ l) (steps_in-append ps qs)

pub behind_more : (n : List ℕ) (ps : List (Bor Steps)) (i : ℕ) (p : Bor Steps) → i < length ps → p ≡ get_or ps i p → behind n (steps_in (take i ps)) ++ kept (rest_behind n p.now) [] ≡ behind n (steps_in (take (i + 1) ps))
behind_more n ps i p lt e =
    ap (λ (q : Bor Steps). behind n (steps_in (take i ps)) ++ kept (rest_behind n q.now) []) e
    ∙ rw (add-one, take-suc ps i p lt, steps_in-append (take i ps) (get_or ps i p ∷ []), behind-append n (steps_in (take i ps)) ((get_or ps i p).now ∷ [])) refl

abbrev pub Rests : Type 0 → Type 0
Rests A = BTreeMap (Bor (List ℕ)) (Vec (Bor Steps) A)

abbrev pub in_map : {A : Type 0} → Rests A → List ℕ → Option (Vec (Bor Steps) A)
in_map m n = get_by (λ k. slice_cmp nat_cmp n k.now) m

abbrev pub steps_or : {A : Type 0} → Option (Vec (Bor Steps) A) → List Steps
steps_or o = option_map_or (λ v. steps_in v.items) o []

one_rest : {A : Type 0} (b : Bool) (ss : Steps) (o : Option (Vec (Bor Steps) A)) (v w : Vec (Bor Steps) A) → (b ≡ true → steps_in v.items ≡ steps_or o) → steps_in w.items ≡ steps_in v.items ++ ss ∷ [] →
    steps_or (cond b (Some w) (cond b None o)) ≡ steps_or o ++ kept (cond b (Some ss) None) []
one_rest true ss o v w f h = h ∙ ap (λ l. l ++ ss ∷ []) (f refl)
one_rest false ss o v w f h = sym (append-nil (steps_or o))

pub rest_more : {A : Type 0} (s : List ℕ) (ss : Bor Steps) (old mid new : Rests A) (v w : Vec (Bor Steps) A) →
    UpdatesBy (λ x y. slice_cmp nat_cmp x.now y.now) (λ k. slice_cmp nat_cmp s k.now) old mid None →
    UpdatesBy (λ x y. slice_cmp nat_cmp x.now y.now) (λ k. slice_cmp nat_cmp s k.now) mid new (Some w) →
    steps_in v.items ≡ steps_or (in_map old s) → w.items ≡ v.items ++ ss ∷ [] →
    (n : List ℕ) → rests_in new n ≡ rests_in old n ++ kept (rest_behind n (s ∷ ss.now)) []
rest_more s ss old mid new v w gone put so_far pushed n =
    ap steps_or (btree_map_updates_str s mid new (Some w) put n ∙ ap (cond (bytes_eq s n) (Some w)) (btree_map_updates_str s old mid None gone n))
    ∙ one_rest (bytes_eq s n) ss.now (in_map old n) v w (λ e. so_far ∙ ap (λ (k : List ℕ). steps_or (in_map old k)) ((bytes_eq-Decides s n).0 e)) (ap steps_in pushed ∙ steps_in-append v.items (ss ∷ []))

-- a group that was looked up
pub found_rests : {A : Type 0} (o : Option (Bor (Vec (Bor Steps) A))) → option_map_or (λ v. steps_in v.now.items) o [] ≡ steps_or (option_copied o)
found_rests None = refl
found_rests (Some v) = refl

-- ---- what is kept

pub pairs_entries : (ps : Pairs) → pairs_of (entries ps) ≡ ps
pairs_entries no_pairs = refl
pairs_entries (pair n t ps) = ap (pair n t) (pairs_entries ps)

pub trees_members : (ts : Trees) → trees_of (members ts) ≡ ts
trees_members no_trees = refl
trees_members (tree t ts) = ap (tree t) (trees_members ts)

pub kept_by_is : (go : List ℕ → List Steps) (paths : List Steps) → ((n : List ℕ) → go n ≡ behind n paths) → (ps : Pairs) → kept_by go ps ≡ keep_pairs paths ps
kept_by_is go paths h no_pairs = refl
kept_by_is go paths h (pair n t ps) =
    ap (λ (r : List Steps). field_before n (left_of r t) (kept_by go ps)) (h n) ∙ ap (field_before n (left_of (behind n paths) t)) (kept_by_is go paths h ps)

pub docs_kept_by_is : (go : List ℕ → List Steps) (paths : List Steps) → ((n : List ℕ) → go n ≡ behind n paths) → (ts : Trees) → docs_kept_by go ts ≡ keep_docs paths ts
docs_kept_by_is go paths h no_trees = refl
docs_kept_by_is go paths h (tree (leaf l) ts) = docs_kept_by_is go paths h ts
docs_kept_by_is go paths h (tree (doc ps) ts) =
    ap (λ (qs : Pairs). tree (doc qs) (docs_kept_by go ts)) (kept_by_is go paths h ps) ∙ ap (tree (doc (keep_pairs paths ps))) (docs_kept_by_is go paths h ts)
docs_kept_by_is go paths h (tree (list us) ts) = docs_kept_by_is go paths h ts

entries_before : (n : List ℕ) (o : Option Tree) (ps : Pairs) → entries (field_before n o ps) ≡ entries (field_before n o no_pairs) ++ entries ps
entries_before n None ps = refl
entries_before n (Some t) ps = refl

-- front and rest are the whole, after a field more
pub field_more : (go : List ℕ → List Steps) (whole kept : List (List ℕ × Tree)) (n : List ℕ) (t : Tree) (o : Option Tree) (rest : List (List ℕ × Tree)) →
    whole ≡ kept ++ entries (kept_by go (pairs_of ((n, t) ∷ rest))) → o ≡ left_of (go n) t → whole ≡ (kept ++ entries (field_before n o no_pairs)) ++ entries (kept_by go (pairs_of rest))
field_more go whole kept n t o rest inv e =
    inv ∙ ap (λ l. kept ++ l) (ap (λ (p : Option Tree). entries (field_before n p (kept_by go (pairs_of rest)))) (sym e) ∙ entries_before n o (kept_by go (pairs_of rest))) ∙ sym (append_assoc kept (entries (field_before n o no_pairs)) (entries (kept_by go (pairs_of rest))))

members_before : (o : Option Tree) (ts : Trees) → members (tree_before o ts) ≡ kept o [] ++ members ts
members_before None ts = refl
members_before (Some t) ts = refl

pub member_more : (go : List ℕ → List Steps) (whole front : List Tree) (t : Tree) (o : Option Tree) (rest : List Tree) →
    whole ≡ front ++ members (docs_kept_by go (trees_of (t ∷ rest))) → o ≡ doc_kept_by go t → whole ≡ (front ++ kept o []) ++ members (docs_kept_by go (trees_of rest))
member_more go whole front t o rest inv e =
    inv ∙ ap (λ l. front ++ l) (ap (λ (p : Option Tree). members (tree_before p (docs_kept_by go (trees_of rest)))) (sym e) ∙ members_before o (docs_kept_by go (trees_of rest))) ∙ sym (append_assoc front (kept o []) (members (docs_kept_by go (trees_of rest))))

-- ---- paths that end here

end_is_empty : (ss : Steps) → (length ss == 0) ≡ is_end ss
end_is_empty [] = refl
end_is_empty (s ∷ ss) = grind (arith, nat_tests)

pub ends_any : (ps : List (Bor Steps)) → list_any (λ r. length r.now == 0) ps ≡ list_any is_end (steps_in ps)
ends_any [] = refl
ends_any (p ∷ ps) = ap (λ (b : Bool). b || list_any (λ r. length r.now == 0) ps) (end_is_empty p.now) ∙ ap (λ (b : Bool). is_end p.now || b) (ends_any ps)

-- what is left of a value by some paths
pub whole_is : (rs : List (Bor Steps)) (t : Tree) → (length rs == 0) ≡ false → list_any (λ r. length r.now == 0) rs ≡ true → Some t ≡ left_of (steps_in rs) t
whole_is [] t h e = absurd cc
whole_is (r ∷ rs) t h e = ap (λ (b : Bool). cond b (Some t) (keep_part (steps_in (r ∷ rs)) t)) (sym (sym (ends_any (r ∷ rs)) ∙ e))

pub part_is : (rs : List (Bor Steps)) (t : Tree) → (length rs == 0) ≡ false → list_any (λ r. length r.now == 0) rs ≡ false → keep_part (steps_in rs) t ≡ left_of (steps_in rs) t
part_is [] t h e = absurd cc
part_is (r ∷ rs) t h e = ap (λ (b : Bool). cond b (Some t) (keep_part (steps_in (r ∷ rs)) t)) (sym (sym (ends_any (r ∷ rs)) ∙ e))

-- ---- a loop's begin and its turns

pub begun : (go : List ℕ → List Steps) (d k f : List (List ℕ × Tree)) → k ≡ [] → f ≡ d → entries (kept_by go (pairs_of d)) ≡ k ++ entries (kept_by go (pairs_of f))
begun go d k f e h = rw (e, h) refl

pub begun_apart : (d k f : List (List ℕ × Tree)) → k ≡ [] → f ≡ d → IsDoc d → AreApart (k ++ f)
begun_apart d k f e h is = rw (e, h) (apart_doc d is)

pub new_here : (xs fields : List (List ℕ × Tree)) (n : List ℕ) (t : Tree) (ys : List (List ℕ × Tree)) → fields ≡ (n, t) ∷ ys → AreApart (xs ++ fields) → find n xs ≡ None
new_here xs fields n t ys e h = apart_front xs n t ys (subst (λ (l : List (List ℕ × Tree)). AreApart (xs ++ l)) e h)

pub turn_whole : (go : List ℕ → List Steps) (whole kept fields : List (List ℕ × Tree)) (n : List ℕ) (t : Tree) (o : Option Tree) (rest new : List (List ℕ × Tree)) →
    whole ≡ kept ++ entries (kept_by go (pairs_of fields)) → fields ≡ (n, t) ∷ rest → o ≡ left_of (go n) t → new ≡ kept ++ entries (field_before n o no_pairs) → whole ≡ new ++ entries (kept_by go (pairs_of rest))
turn_whole go whole kept fields n t o rest new inv e is made =
    rw made (field_more go whole kept n t o rest (inv ∙ ap (λ (l : List (List ℕ × Tree)). kept ++ entries (kept_by go (pairs_of l))) e) is)

pub turn_apart : (kept fields : List (List ℕ × Tree)) (n : List ℕ) (t : Tree) (o : Option Tree) (rest new : List (List ℕ × Tree)) →
    AreApart (kept ++ fields) → fields ≡ (n, t) ∷ rest → new ≡ kept ++ entries (field_before n o no_pairs) → AreApart (new ++ rest)
turn_apart kept fields n t o rest new h e made =
    rw made (apart_more kept n t o rest (subst (λ (l : List (List ℕ × Tree)). AreApart (kept ++ l)) e h))

pub part_doc : (go : List ℕ → List Steps) (paths : List Steps) (ps : Pairs) → ((n : List ℕ) → go n ≡ behind n paths) → Some (doc (pairs_of (entries (kept_by go ps)))) ≡ Some (doc (keep_pairs paths ps))
part_doc go paths ps h = ap (λ (qs : Pairs). Some (doc qs)) (pairs_entries (kept_by go ps) ∙ kept_by_is go paths h ps)

pub part_list : (go : List ℕ → List Steps) (paths : List Steps) (ts : Trees) → ((n : List ℕ) → go n ≡ behind n paths) → Some (list (trees_of (members (docs_kept_by go ts)))) ≡ Some (list (keep_docs paths ts))
part_list go paths ts h = ap (λ (us : Trees). Some (list us)) (trees_members (docs_kept_by go ts) ∙ docs_kept_by_is go paths h ts)

pub member_doc : (go : List ℕ → List Steps) (ps : Pairs) → Some (doc (pairs_of (entries (kept_by go ps)))) ≡ Some (doc (kept_by go ps))
member_doc go ps = ap (λ (qs : Pairs). Some (doc qs)) (pairs_entries (kept_by go ps))

-- A set that takes members in turn has each where it is first met.
use Rattle.std.proofs.Common.{◌≡◌, ℕ, suc, ◌+◌, ◌<◌, Bool, true, false, cond, List, [], ◌∷◌, ◌++◌, length, drop, get_or, refl, sym, ap, ◌∙◌, append_assoc, add-one}
use Rattle.std.proofs.Math.Seq.{drop-cons}
use Rattle.std.specs.Prelude.{not, ◌||◌, ◌&&◌, if◌then◌else◌}
use Rattle.std.specs.List.{filter, list_any, list_all}
use Rattle.std.specs.Cmp.{IsEquivalence, eq_by_cmp_equiv}
use Rattle.std.proofs.lemmas.List.{append-nil}
use Rattle.std.proofs.lemmas.List.Folds.{list_any-append}
use Rattle.std.proofs.lemmas.Map.Steps.{list_any_congr}
use Rattle.indexmap.specs.IndexSet.{insert_key, insert_all}
use Rattle.bson_value.specs.Tree.{Tree}
use Rattle.bson_value.specs.SetRows.{same, has, firsts, in_all, is_subset}
use Rattle.bson_value.proofs.Total.{order_total}

pub laws : IsEquivalence same
laws = eq_by_cmp_equiv order_total

abbrev apart : Tree → Tree → Bool
apart t u = not (same t u)

-- what a set of these members lacks
abbrev lacks : List Tree → Tree → Bool
lacks ks t = not (has ks t)

-- a member that equals one of the set is lacking nowhere
lacks_same : (ks : List Tree) (t : Tree) (us : List Tree) → has ks t ≡ true → filter (lacks ks) (filter (apart t) us) ≡ filter (lacks ks) us
lacks_same ks t [] h = refl
lacks_same ks t (u ∷ us) h = by (same t u) refl (lacks_same ks t us h)
  where
    by : (b : Bool) → same t u ≡ b → filter (lacks ks) (filter (apart t) us) ≡ filter (lacks ks) us → filter (lacks ks) (filter (apart t) (u ∷ us)) ≡ filter (lacks ks) (u ∷ us)
    by true e rest = let f : has ks u ≡ true = sym (list_any_congr laws t u ks e) ∙ h in rw (e, f) rest
    by false e rest = rw e (ap (λ (more : List Tree). cond (lacks ks u) (u ∷ more) more) rest)

-- with one more member
lacks_more : (ks : List Tree) (t : Tree) (us : List Tree) → filter (lacks (ks ++ t ∷ [])) us ≡ filter (lacks ks) (filter (apart t) us)
lacks_more ks t [] = refl
lacks_more ks t (u ∷ us) = by (same t u) (has ks u) refl refl (lacks_more ks t us)
  where
    by : (b d : Bool) → same t u ≡ b → has ks u ≡ d → filter (lacks (ks ++ t ∷ [])) us ≡ filter (lacks ks) (filter (apart t) us) → filter (lacks (ks ++ t ∷ [])) (u ∷ us) ≡ filter (lacks ks) (filter (apart t) (u ∷ us))
    by true true e f rest = rw (list_any-append (same u) ks (t ∷ []), laws.symm u t, e, f) rest
    by true false e f rest = rw (list_any-append (same u) ks (t ∷ []), laws.symm u t, e, f) rest
    by false true e f rest = rw (list_any-append (same u) ks (t ∷ []), laws.symm u t, e, f) rest
    by false false e f rest = rw (list_any-append (same u) ks (t ∷ []), laws.symm u t, e, f) (ap (λ (more : List Tree). u ∷ more) rest)

pub inserted : (ks ts : List Tree) → insert_all same ks ts ≡ ks ++ filter (lacks ks) (firsts ts)
inserted ks [] = sym (append-nil ks)
inserted ks (t ∷ ts) = by (has ks t) refl (λ k. inserted k ts)
  where
    by : (b : Bool) → has ks t ≡ b → ((k : List Tree) → insert_all same k ts ≡ k ++ filter (lacks k) (firsts ts)) → insert_all same (insert_key same ks t) ts ≡ ks ++ filter (lacks ks) (firsts (t ∷ ts))
    by true e rest = rw e (rest ks ∙ ap (λ (more : List Tree). ks ++ more) (sym (lacks_same ks t (firsts ts) e)))
    by false e rest = rw e (rest (ks ++ t ∷ []) ∙ append_assoc ks (t ∷ []) (filter (lacks (ks ++ t ∷ [])) (firsts ts)) ∙ ap (λ (more : List Tree). ks ++ t ∷ more) (lacks_more ks t (firsts ts)))

lacks_nothing : (us : List Tree) → filter (lacks []) us ≡ us
lacks_nothing [] = refl
lacks_nothing (u ∷ us) = ap (λ (more : List Tree). u ∷ more) (lacks_nothing us)

pub inserted_first : (ks ts : List Tree) → ks ≡ [] → insert_all same ks ts ≡ firsts ts
inserted_first ks ts e = ap (λ (k : List Tree). insert_all same k ts) e ∙ inserted [] ts ∙ lacks_nothing (firsts ts)

-- what is seen of the firsts is seen of all
apart_has : (t u : Tree) (vs : List Tree) → same t u ≡ false → has (filter (apart u) vs) t ≡ has vs t
apart_has t u [] e = refl
apart_has t u (v ∷ vs) e = by (same u v) refl (apart_has t u vs e)
  where
    by : (b : Bool) → same u v ≡ b → has (filter (apart u) vs) t ≡ has vs t → has (filter (apart u) (v ∷ vs)) t ≡ has (v ∷ vs) t
    by true f rest = let g : same t v ≡ false = laws.symm t v ∙ sym (laws.congr u v t f) ∙ laws.symm u t ∙ e in rw (f, g) rest
    by false f rest = rw f (ap (λ (b : Bool). same t v || b) rest)

pub has-firsts : (ts : List Tree) (t : Tree) → has (firsts ts) t ≡ has ts t
has-firsts [] t = refl
has-firsts (u ∷ us) t = by (same t u) refl (has-firsts us t)
  where
    by : (b : Bool) → same t u ≡ b → has (firsts us) t ≡ has us t → has (firsts (u ∷ us)) t ≡ has (u ∷ us) t
    by true e rest = rw e refl
    by false e rest = rw e (apart_has t u (firsts us) e ∙ rest)

apart_all : (ks : List Tree) (u : Tree) (vs : List Tree) → has ks u ≡ true → list_all (has ks) (filter (apart u) vs) ≡ list_all (has ks) vs
apart_all ks u [] h = refl
apart_all ks u (v ∷ vs) h = by (same u v) refl (apart_all ks u vs h)
  where
    by : (b : Bool) → same u v ≡ b → list_all (has ks) (filter (apart u) vs) ≡ list_all (has ks) vs → list_all (has ks) (filter (apart u) (v ∷ vs)) ≡ list_all (has ks) (v ∷ vs)
    by true e rest = let f : has ks v ≡ true = sym (list_any_congr laws u v ks e) ∙ h in rw (e, f) rest
    by false e rest = rw e (ap (λ (b : Bool). has ks v && b) rest)

pub all_firsts : (ks ts : List Tree) → list_all (has ks) (firsts ts) ≡ list_all (has ks) ts
all_firsts ks [] = refl
all_firsts ks (t ∷ ts) = by (has ks t) refl (all_firsts ks ts)
  where
    by : (b : Bool) → has ks t ≡ b → list_all (has ks) (firsts ts) ≡ list_all (has ks) ts → list_all (has ks) (firsts (t ∷ ts)) ≡ list_all (has ks) (t ∷ ts)
    by true e rest = rw e (apart_all ks t (firsts ts) e ∙ rest)
    by false e rest = rw e refl

-- narrowed array by array
pub in_all_more : (ks ts : List Tree) (tss : List (List Tree)) → filter (in_all (ts ∷ tss)) ks ≡ filter (in_all tss) (filter (has ts) ks)
in_all_more [] ts tss = refl
in_all_more (k ∷ ks) ts tss = by (has ts k) refl (in_all_more ks ts tss)
  where
    by : (b : Bool) → has ts k ≡ b → filter (in_all (ts ∷ tss)) ks ≡ filter (in_all tss) (filter (has ts) ks) → filter (in_all (ts ∷ tss)) (k ∷ ks) ≡ filter (in_all tss) (filter (has ts) (k ∷ ks))
    by true e rest = rw e (ap (λ (more : List Tree). cond (in_all tss k) (k ∷ more) more) rest)
    by false e rest = rw e rest

pub in_all_none : (ks : List Tree) → filter (in_all []) ks ≡ ks
in_all_none [] = refl
in_all_none (k ∷ ks) = ap (λ (more : List Tree). k ∷ more) (in_all_none ks)

-- one more member that stands in the array, or that doesn't; the keys are what a set of the array holds
pub shared_next : (array keys ts : List Tree) (i : ℕ) (t : Tree) → keys ≡ firsts array → i < length ts → t ≡ get_or ts i t
    → (if list_any (same t) keys then t ∷ [] else []) ++ filter (has array) (drop (i + 1) ts) ≡ filter (has array) (drop i ts)
shared_next array keys ts i t e lt is = rw (add-one, drop-cons ts i t lt, ← is, e, has-firsts array t) (by (has array t) (filter (has array) (drop (suc i) ts)))
  where
    by : (b : Bool) (more : List Tree) → (if b then t ∷ [] else []) ++ more ≡ cond b (t ∷ more) more
    by true more = refl
    by false more = refl

pub other_next : (array keys ts : List Tree) (i : ℕ) (t : Tree) → keys ≡ firsts array → i < length ts → t ≡ get_or ts i t
    → (if list_any (same t) keys then [] else t ∷ []) ++ filter (λ u. not (has array u)) (drop (i + 1) ts) ≡ filter (λ u. not (has array u)) (drop i ts)
other_next array keys ts i t e lt is = rw (add-one, drop-cons ts i t lt, ← is, e, has-firsts array t) (by (has array t) (filter (λ u. not (has array u)) (drop (suc i) ts)))
  where
    by : (b : Bool) (more : List Tree) → (if b then [] else t ∷ []) ++ more ≡ cond (not b) (t ∷ more) more
    by true more = refl
    by false more = refl

pub all_congr : (array ts : List Tree) → list_all (λ t. has (firsts array) t) ts ≡ list_all (has array) ts
all_congr array [] = refl
all_congr array (t ∷ ts) = rw (has-firsts array t) (ap (λ (b : Bool). has array t && b) (all_congr array ts))

-- whether all of an array's members are in another, by the sets of both
pub all_seen : (array ts keys members : List Tree) → keys ≡ firsts array → members ≡ firsts ts → list_all (λ t. list_any (same t) keys) members ≡ list_all (has array) ts
all_seen array ts keys members e f = rw (e, f) (all_congr array (firsts ts) ∙ all_firsts array ts)

pub both_seen : (first array keys : List Tree) → keys ≡ firsts first → (list_all (has array) keys && list_all (λ t. list_any (same t) keys) (firsts array)) ≡ (is_subset first array && is_subset array first)
both_seen first array keys e =
    let a : list_all (has array) keys ≡ is_subset first array = rw e (all_firsts array first) in
    let b : list_all (λ t. list_any (same t) keys) (firsts array) ≡ is_subset array first = all_seen first array keys (firsts array) e refl in
    λ i. a i && b i

pub seen_keys : (array keys others : List Tree) → others ≡ firsts array → list_all (λ t. list_any (same t) others) keys ≡ list_all (has array) keys
seen_keys array keys others e = rw e (all_congr array keys)

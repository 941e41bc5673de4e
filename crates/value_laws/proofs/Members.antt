-- The members of a set.
use Rattle.std.proofs.Common.{◌≡◌, Bool, true, false, cond, List, [], ◌∷◌, ◌++◌, refl, sym, ap, ◌∙◌}
use Rattle.std.specs.Prelude.{not, ◌||◌, filter}
use Rattle.std.specs.Cmp.{IsEquivalence}
use Rattle.std.specs.List.{IsDistinct}
use Rattle.std.proofs.lemmas.Cmp.{eq_by_cmp_equiv}
use Rattle.std.proofs.lemmas.List.{append-nil}
use Rattle.std.proofs.lemmas.List.Elements.{recursion_from_All, All-from_recursion, All-weaker, All-filter, filter_passes, filter-append}
use Rattle.std.proofs.lemmas.Map.Keys.{IsDistinct-head, IsDistinct-tail, IsDistinct-cons}
use Rattle.std.proofs.lemmas.Map.Views.{any-filter_same}
use Rattle.bson_value.specs.Tree.{Tree}
use Rattle.bson_value.specs.SetRows.{same, has, firsts}
use Rattle.bson_value.proofs.Total.{order_total}

sames : IsEquivalence same
sames = eq_by_cmp_equiv order_total

or_false : (a b : Bool) → a || b ≡ false → (a ≡ false) × (b ≡ false)
or_false true b h = absurd (cc)
or_false false b h = (refl, h)

or_true : (a b : Bool) → b ≡ false → a || b ≡ true → a ≡ true
or_true true b e h = refl
or_true false b e h = absurd (cc)

not_true : (b : Bool) → not b ≡ true → b ≡ false
not_true true h = absurd (cc)
not_true false h = refl

kept : (e : Tree → Tree → Bool) (p : Tree → Bool) (x : Tree) (xs : List Tree) → IsDistinct e (x ∷ xs) → IsDistinct e (filter p xs) → (b : Bool) → IsDistinct e (cond b (x ∷ filter p xs) (filter p xs))
kept e p x xs d rest true =
    IsDistinct-cons e x (filter p xs) (recursion_from_All (λ y. e x y ≡ false) (filter p xs) (All-filter p (λ y. e x y ≡ false) xs (All-from_recursion (λ y. e x y ≡ false) xs (IsDistinct-head e x xs d)))) rest
kept e p x xs d rest false = rest

distinct_filter : (e : Tree → Tree → Bool) (p : Tree → Bool) (xs : List Tree) → IsDistinct e xs → IsDistinct e (filter p xs)
distinct_filter e p [] d = d
distinct_filter e p (x ∷ xs) d = kept e p x xs d (distinct_filter e p xs (IsDistinct-tail e x xs d)) (p x)

pub differ : (ts : List Tree) → IsDistinct same (firsts ts)
unfolding IsDistinct
differ [] = tt
differ (t ∷ ts) = (
  recursion_from_All (λ y. same t y ≡ false) _ (All-weaker (λ u. not (same t u) ≡ true) (λ y. same t y ≡ false) (λ u h. not_true (same t u) h) _ (filter_passes (λ u. not (same t u)) (firsts ts))),
  distinct_filter same (λ u. not (same t u)) (firsts ts) (differ ts),
)

has_step : (t u : Tree) (ts : List Tree) → has (firsts ts) u ≡ has ts u → (b : Bool) → same u t ≡ b
    → b || has (filter (λ v. not (same t v)) (firsts ts)) u ≡ b || has ts u
has_step t u ts rest true e = refl
has_step t u ts rest false e =
    any-filter_same (same u) (λ v. not (same t v)) true (λ k h. ap not (sames.symm t k ∙ sym (sames.congr u k t h) ∙ e)) (firsts ts) ∙ rest

pub each_value : (ts : List Tree) (u : Tree) → has (firsts ts) u ≡ has ts u
each_value [] u = refl
each_value (t ∷ ts) u = has_step t u ts (each_value ts u) (same u t) refl

-- the members with t behind them, without those that are the same as s
with_last : (s t : Tree) (us : List Tree) (b : Bool) → same t s ≡ b → filter (λ v. not (same s v)) (us ++ t ∷ []) ≡ filter (λ v. not (same s v)) us ++ cond b [] (t ∷ [])
with_last s t us true e =
    filter-append (λ v. not (same s v)) us (t ∷ []) ∙ ap (λ (c : Bool). filter (λ v. not (same s v)) us ++ cond (not c) (t ∷ []) []) (sames.symm s t ∙ e)
with_last s t us false e =
    filter-append (λ v. not (same s v)) us (t ∷ []) ∙ ap (λ (c : Bool). filter (λ v. not (same s v)) us ++ cond (not c) (t ∷ []) []) (sames.symm s t ∙ e)

pub new_last : (ts : List Tree) (t : Tree) → has ts t ≡ false → firsts (ts ++ t ∷ []) ≡ firsts ts ++ t ∷ []
new_last [] t h = refl
new_last (s ∷ ts) t h =
    let parts = or_false (same t s) (has ts t) h in
    ap (λ (us : List Tree). s ∷ filter (λ v. not (same s v)) us) (new_last ts t parts.1) ∙ ap (λ (us : List Tree). s ∷ us) (with_last s t (firsts ts) false parts.0)

met_step : (s t : Tree) (ts : List Tree) → (has ts t ≡ true → firsts (ts ++ t ∷ []) ≡ firsts ts) → same t s || has ts t ≡ true → (b : Bool) → has ts t ≡ b
    → firsts (s ∷ (ts ++ t ∷ [])) ≡ firsts (s ∷ ts)
met_step s t ts rest h true e = ap (λ (us : List Tree). s ∷ filter (λ v. not (same s v)) us) (rest e)
met_step s t ts rest h false e =
    ap (λ (us : List Tree). s ∷ filter (λ v. not (same s v)) us) (new_last ts t e)
    ∙ ap (λ (us : List Tree). s ∷ us) (with_last s t (firsts ts) true (or_true (same t s) (has ts t) e h) ∙ append-nil (filter (λ v. not (same s v)) (firsts ts)))

pub met_before : (ts : List Tree) (t : Tree) → has ts t ≡ true → firsts (ts ++ t ∷ []) ≡ firsts ts
met_before [] t h = absurd (cc)
met_before (s ∷ ts) t h = met_step s t ts (met_before ts t) h (has ts t) refl

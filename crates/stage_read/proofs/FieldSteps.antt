-- The fields of a document, one after another.
use Rattle.std.proofs.Common.{◌≡◌, ℕ, zero, suc, ◌+◌, List, [], ◌∷◌, drop, length, refl, sym, ap, ◌∙◌, arith, add-one}
use Rattle.std.specs.Prelude.{Option, Some, None, slice_get, codes, ◌==◌}
use Rattle.std.specs.Option.{option_map, option_and_then}
use Rattle.std.proofs.lemmas.Bool.{eqb-true, false_from_ne_true}
use Rattle.bson_value.specs.Pairs.{find}
use Rattle.bson_value.specs.Tree.{Tree, Pairs, Trees, pairs_of, entries}
use Rattle.expr_tree.specs.Spells.{Fields}
use Rattle.stage_read.specs.Commands.{field_step, pipeline_from}
use Rattle.stage_read.specs.Reading.{Placings, collection_in, collection_at, with_union, full_union}

pub entries_pairs : (ds : Fields) → entries (pairs_of ds) ≡ ds
entries_pairs [] = refl
entries_pairs (d ∷ ds) = ap (λ es. d ∷ es) (entries_pairs ds)

pub coll_some : (ds : Fields) (v : Tree) → Some v ≡ find (codes "coll") ds → collection_in v ≡ collection_at (pairs_of ds)
coll_some ds v e = rw (entries_pairs ds, ← e) refl

pub coll_none : (ds : Fields) → None ≡ find (codes "coll") ds → None ≡ collection_at (pairs_of ds)
coll_none ds e = rw (entries_pairs ds, ← e) refl

pub field_at : (ds : Fields) (i : ℕ) (k : List ℕ) (v : Tree) → option_map (λ (p : List ℕ × Tree). p.0) (slice_get ds i) ≡ Some k → option_map (λ (p : List ℕ × Tree). p.1) (slice_get ds i) ≡ Some v → drop i ds ≡ (k, v) ∷ drop (i + 1) ds
field_at [] i k v p q = absurd cc
field_at (x ∷ ds) zero k v p q = let d : x.0 ≡ k = cc in let e : x.1 ≡ v = cc in rw (← d, ← e) refl
field_at (x ∷ ds) (suc i) k v p q = rw add-one (rw add-one at (field_at ds i k v p q))

module _ (ds : Fields) (i : ℕ) (k : List ℕ) (v : Tree) (pk : option_map (λ (p : List ℕ × Tree). p.0) (slice_get ds i) ≡ Some k) (pv : option_map (λ (p : List ℕ × Tree). p.1) (slice_get ds i) ≡ Some v) (found : Option Trees) (s : Option Trees) (p : pipeline_from found (drop i ds) ≡ s) where
  step : option_and_then (λ f. pipeline_from f (drop (i + 1) ds)) (field_step found k v) ≡ s
  step = ap (pipeline_from found) (sym (field_at ds i k v pk pv)) ∙ p

  pub fields_go : (f : Option Trees) → Some f ≡ field_step found k v → pipeline_from f (drop (i + 1) ds) ≡ s
  fields_go f e = ap (λ (o : Option (Option Trees)). option_and_then (λ g. pipeline_from g (drop (i + 1) ds)) o) e ∙ step

  pub fields_stop : None ≡ field_step found k v → None ≡ s
  fields_stop e = ap (λ (o : Option (Option Trees)). option_and_then (λ g. pipeline_from g (drop (i + 1) ds)) o) e ∙ step

pub union_counted : (fs : Pairs) (o : Option Placings) (n : ℕ) → n ≡ length (entries fs) → n ≡ 2 → full_union fs o ≡ with_union (collection_at fs) o
union_counted fs o n l e = rw (sym l ∙ e) refl

pub union_miscounted : (fs : Pairs) (o : Option Placings) (n : ℕ) → n ≡ length (entries fs) → ¬ (n ≡ 2) → full_union fs o ≡ None
union_miscounted fs o n l h = rw (false_from_ne_true (length (entries fs) == 2) (λ e. h (l ∙ eqb-true (length (entries fs)) 2 e))) refl

pub union_named : (o p : Option (List ℕ)) (q : Option Placings) → o ≡ p → with_union o q ≡ with_union p q
union_named o p q e = ap (λ x. with_union x q) e

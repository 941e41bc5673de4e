-- A document's key, path by path: its values, or the first part that meets an array.
use Rattle.std.proofs.Common.{◌≡◌, ℕ, suc, ◌+◌, Bool, true, false, cond, List, [], ◌∷◌, ◌++◌, map, length, refl, sym, ap, ◌∙◌, arith}
use Rattle.std.specs.Prelude.{Result, Ok, Err}
use Rattle.std.specs.List.{AllByRecursion}
use Rattle.std.proofs.lemmas.List.Elements.{All-from_recursion, recursion_from_All}
use Rattle.bson_value.specs.Paths.{Steps, plain}
use Rattle.bson_value.specs.Tree.{Tree, doc, pairs_of}
use Rattle.bson_codec.specs.Records.{Document}
use Rattle.chunk_map.specs.Keys.{meets_array, part_value, with_part, key_from, key_of}
use Rattle.stage_laws.specs.Surveys.{MeetsNone, MeetsIn}

abbrev Key : Type 0
Key = Result (List Tree) ℕ

with_ok : (v : Tree) (r : Key) (key : List Tree) → with_part v r ≡ Ok key → (rest : List Tree) × (r ≡ Ok rest) × (v ∷ rest ≡ key)
with_ok v (Ok rest) key e = (rest, refl, cc)
with_ok v (Err part) key e = absurd cc

with_err : (v : Tree) (r : Key) (part : ℕ) → with_part v r ≡ Err part → r ≡ Err part
with_err v (Ok rest) part e = absurd cc
with_err v (Err n) part e = cc

same_part : (n part : ℕ) → (let fails : ℕ → Key = λ k. Err k in fails n ≡ fails part) → n ≡ part
same_part n part e = cc

module _ (t : Tree) where
  abbrev misses : Steps → Type 0
  misses p = meets_array p t ≡ false

  abbrev values : List Steps → List Tree
  values ps = map (λ p. part_value (plain p t)) ps

  abbrev next : ℕ → Steps → List Steps → Bool → Key
  next n p ps b = cond b (Err n) (with_part (part_value (plain p t)) (key_from (suc n) ps t))

  has_values : (n : ℕ) (ps : List Steps) → AllByRecursion misses ps → key_from n ps t ≡ Ok (values ps)
  has_values n [] h = refl
  has_values n (p ∷ ps) h = ap (next n p ps) h.0 ∙ ap (with_part (part_value (plain p t))) (has_values (suc n) ps h.1)

  values_had : (n : ℕ) (ps : List Steps) (key : List Tree) → key_from n ps t ≡ Ok key → AllByRecursion misses ps × (values ps ≡ key)
  values_had n [] key e = (tt, cc)
  values_had n (p ∷ ps) key e =
      elim (meets_array p t) as (λ b. meets_array p t ≡ b → next n p ps b ≡ Ok key → AllByRecursion misses (p ∷ ps) × (values (p ∷ ps) ≡ key)) [
        | true ↦ λ q f. absurd cc
        | false ↦ λ q f.
            let a = with_ok (part_value (plain p t)) (key_from (suc n) ps t) key f in
            let r = values_had (suc n) ps a.0 a.1 in
            ((q, r.0), ap (λ (vs : List Tree). part_value (plain p t) ∷ vs) r.1 ∙ a.2)
      ] refl e

  part_met : (n part : ℕ) (front : List Steps) (p : Steps) (back : List Steps) → AllByRecursion misses front → meets_array p t ≡ true → n + length front ≡ part → key_from n (front ++ p ∷ back) t ≡ Err part
  part_met n part [] p back h m e = let same : n ≡ part = omega arith in ap (next n p back) m ∙ ap (λ (k : ℕ). Err k) same
  part_met n part (x ∷ front) p back h m e =
      ap (next n x (front ++ p ∷ back)) h.0 ∙ ap (with_part (part_value (plain x t))) (part_met (suc n) part front p back h.1 m (omega (arith, e)))

  met_part : (n part : ℕ) (ps : List Steps) → key_from n ps t ≡ Err part → (front : List Steps) × (p : Steps) × (back : List Steps) × (front ++ p ∷ back ≡ ps) × (n + length front ≡ part) × (meets_array p t ≡ true) × AllByRecursion misses front
  met_part n part [] e = absurd cc
  met_part n part (p ∷ ps) e =
      elim (meets_array p t) as (λ b. meets_array p t ≡ b → next n p ps b ≡ Err part → (front : List Steps) × (o : Steps) × (back : List Steps) × (front ++ o ∷ back ≡ p ∷ ps) × (n + length front ≡ part) × (meets_array o t ≡ true) × AllByRecursion misses front) [
        | true ↦ λ q f. ([], p, ps, refl, omega (arith, same_part n part f), q, tt)
        | false ↦ λ q f.
            let r = met_part (suc n) part ps (with_err (part_value (plain p t)) (key_from (suc n) ps t) part f) in
            (p ∷ r.0, r.1, r.2, ap (λ (os : List Steps). p ∷ os) r.3, omega (arith, r.4), r.5, (q, r.6))
      ] refl e

module _ (paths : List Steps) (d : Document) where
  abbrev tree : Tree
  tree = doc (pairs_of d)

  pub keyed : MeetsNone paths d → key_of paths d ≡ Ok (values tree paths)
  keyed h = has_values tree 1 paths (recursion_from_All (misses tree) paths h)

  pub is_keyed : (key : List Tree) → key_of paths d ≡ Ok key → MeetsNone paths d × (values tree paths ≡ key)
  is_keyed key e = let r = values_had tree 1 paths key e in (All-from_recursion (misses tree) paths r.0, r.1)

  pub arrayed : (part : ℕ) → MeetsIn paths d part → key_of paths d ≡ Err part
  arrayed part h =
      ap (λ (ps : List Steps). key_of ps d) (sym h.split) ∙ part_met tree 1 part h.front h.path h.back (recursion_from_All (misses tree) h.front h.before) h.meets (omega (arith, h.counted))

  pub is_arrayed : (part : ℕ) → key_of paths d ≡ Err part → MeetsIn paths d part
  is_arrayed part e =
      let r = met_part tree 1 part paths e in
      record { front = r.0; path = r.1; back = r.2; split = r.3; counted = omega (arith, r.4); meets = r.5; before = All-from_recursion (misses tree) r.0 r.6 }

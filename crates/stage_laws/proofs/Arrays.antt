-- The first of several records whose key meets an array.
use Rattle.std.proofs.Common.{◌≡◌, ℕ, suc, ◌+◌, List, [], ◌∷◌, ◌++◌, length, refl, sym, ap, ◌∙◌, arith, length-append}
use Rattle.std.specs.Prelude.{Option, Some, None, Result, Ok, Err}
use Rattle.std.specs.List.{All, AllByRecursion}
use Rattle.std.proofs.lemmas.List.Elements.{All-from_recursion, recursion_from_All}
use Rattle.bson_value.specs.Paths.{Steps}
use Rattle.bson_value.specs.Tree.{Tree}
use Rattle.bson_codec.specs.Records.{Document, joined}
use Rattle.bson_codec.specs.Spelling.{spelling}
use Rattle.chunk_map.specs.Keys.{key_of}
use Rattle.orphan_filter.specs.Survey.{ArrayRecord, unless_array, array_from, first_array}
use Rattle.stage_laws.specs.Surveys.{MeetsNone, MeetsIn, IsFirstArray}
use Rattle.stage_laws.proofs.Keys.{keyed, is_keyed, arrayed, is_arrayed}

some_array : (a b : ArrayRecord) → (let some : ArrayRecord → Option ArrayRecord = λ x. Some x in some a ≡ some b) → a ≡ b
some_array a b e = cc

module _ (paths : List Steps) where
  abbrev later : ℕ → ℕ → Document → List Document → Option ArrayRecord
  later n at d ds = array_from paths (suc n) (at + length (spelling d)) ds

  passes : (n at : ℕ) (d : Document) (ds : List Document) → MeetsNone paths d → array_from paths n at (d ∷ ds) ≡ later n at d ds
  passes n at d ds h = ap (λ (r : Result (List Tree) ℕ). unless_array n at r (later n at d ds)) (keyed paths d h)

  none_from : (n at : ℕ) (ds : List Document) → AllByRecursion (MeetsNone paths) ds → array_from paths n at ds ≡ None
  none_from n at [] h = refl
  none_from n at (d ∷ ds) h = passes n at d ds h.0 ∙ none_from (suc n) (at + length (spelling d)) ds h.1

  none_met : (n at : ℕ) (ds : List Document) → array_from paths n at ds ≡ None → AllByRecursion (MeetsNone paths) ds
  none_met n at [] e = tt
  none_met n at (d ∷ ds) e =
      elim (key_of paths d) as (λ r. key_of paths d ≡ r → unless_array n at r (later n at d ds) ≡ None → AllByRecursion (MeetsNone paths) (d ∷ ds)) [
        | Ok key ↦ λ q f. ((is_keyed paths d key q).0, none_met (suc n) (at + length (spelling d)) ds f)
        | Err part ↦ λ q f. absurd cc
      ] refl e

  at_place : (n at : ℕ) (a : ArrayRecord) (before : List Document) (d : Document) (back : List Document) → AllByRecursion (MeetsNone paths) before → MeetsIn paths d a.part → n + length before ≡ a.number → at + length (joined before) ≡ a.start
      → array_from paths n at (before ++ d ∷ back) ≡ Some a
  at_place n at a [] d back h m counted place =
      let e : n ≡ a.number = omega arith in
      let f : at ≡ a.start = omega arith in
      ap (λ (r : Result (List Tree) ℕ). unless_array n at r (later n at d back)) (arrayed paths d a.part m) ∙ (λ i. Some (record { number = e i; start = f i; part = a.part }))
  at_place n at a (x ∷ before) d back h m counted place =
      passes n at x (before ++ d ∷ back) h.0
      ∙ at_place (suc n) (at + length (spelling x)) a before d back h.1 m (omega (arith, counted)) (omega (arith, place, length-append (spelling x) (joined before)))

  place_of : (n at : ℕ) (a : ArrayRecord) (ds : List Document) → array_from paths n at ds ≡ Some a
      → (before : List Document) × (d : Document) × (back : List Document) × (before ++ d ∷ back ≡ ds) × AllByRecursion (MeetsNone paths) before × MeetsIn paths d a.part × (n + length before ≡ a.number) × (at + length (joined before) ≡ a.start)
  place_of n at a [] e = absurd cc
  place_of n at a (x ∷ ds) e =
      elim (key_of paths x) as (λ r. key_of paths x ≡ r → unless_array n at r (later n at x ds) ≡ Some a
      → (before : List Document) × (d : Document) × (back : List Document) × (before ++ d ∷ back ≡ x ∷ ds) × AllByRecursion (MeetsNone paths) before × MeetsIn paths d a.part × (n + length before ≡ a.number) × (at + length (joined before) ≡ a.start)) [
        | Ok key ↦ λ q f.
            let r = place_of (suc n) (at + length (spelling x)) a ds f in
            (x ∷ r.0, r.1, r.2, ap (λ (l : List Document). x ∷ l) r.3, ((is_keyed paths x key q).0, r.4), r.5, omega (arith, r.6), omega (arith, r.7, length-append (spelling x) (joined r.0)))
        | Err part ↦ λ q f.
            let same = some_array (record { number = n; start = at; part = part }) a f in
            let number : n ≡ a.number = ap (λ (b : ArrayRecord). b.number) same in
            let start : at ≡ a.start = ap (λ (b : ArrayRecord). b.start) same in
            ([], x, ds, refl, tt, is_arrayed paths x a.part (q ∙ ap (λ (b : ArrayRecord). Err b.part) same), omega (arith, number), omega (arith, start))
      ] refl e

  pub array_none : (ds : List Document) → All (MeetsNone paths) ds → first_array paths ds ≡ None
  array_none ds h = none_from 1 0 ds (recursion_from_All (MeetsNone paths) ds h)

  pub none_array : (ds : List Document) → first_array paths ds ≡ None → All (MeetsNone paths) ds
  none_array ds e = All-from_recursion (MeetsNone paths) ds (none_met 1 0 ds e)

  pub array_at : (a : ArrayRecord) (before : List Document) (d : Document) (back : List Document) → All (MeetsNone paths) before → MeetsIn paths d a.part → suc (length before) ≡ a.number → length (joined before) ≡ a.start → first_array paths (before ++ d ∷ back) ≡ Some a
  array_at a before d back h m counted place =
      at_place 1 0 a before d back (recursion_from_All (MeetsNone paths) before h) m (omega (arith, counted)) (omega (arith, place))

  pub array_found : (a : ArrayRecord) (ds : List Document) → IsFirstArray paths ds a → first_array paths ds ≡ Some a
  array_found a ds h = ap (first_array paths) (sym h.split) ∙ array_at a h.before h.document h.back h.keys h.array h.counted h.place

  pub found_array : (a : ArrayRecord) (ds : List Document) → first_array paths ds ≡ Some a → IsFirstArray paths ds a
  found_array a ds e =
      let r = place_of 1 0 a ds e in
      record {
        before = r.0;
        document = r.1;
        back = r.2;
        split = r.3;
        keys = All-from_recursion (MeetsNone paths) r.0 r.4;
        array = r.5;
        counted = omega (arith, r.6);
        place = omega (arith, r.7);
      }

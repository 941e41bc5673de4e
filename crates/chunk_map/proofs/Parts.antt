-- The parts of a key, while it is made.
use Rattle.std.proofs.Common.{◌≡◌, ℕ, suc, ◌+◌, ◌<◌, ◌≤◌, true, false, List, [], ◌∷◌, ◌++◌, map, length, take, drop, get_or, set, Bor, refl, sym, ap, subst, ◌∙◌, arith, add-one, append_assoc, append-nil}
use Rattle.std.specs.Prelude.{Option, Some, None, Result, Ok, Err}
use Rattle.std.proofs.lemmas.List.{take_more_set, map-append, length-map, length-take}
use Rattle.bson_value.specs.declared.value.Value.{Value}
use Rattle.bson_value.specs.Pairs.{find}
use Rattle.bson_value.specs.Paths.{Steps, plain}
use Rattle.bson_value.specs.Tree.{Tree, doc, pairs_of}
use Rattle.bson_value.proofs.Distinct.{entries_pairs}
use Rattle.doc_path.proofs.Steps.{rest_of, rest_is}
use Rattle.chunk_map.specs.Keys.{meets_array, part_value, with_part, key_from}
use Rattle.chunk_map.proofs.Listed.{drop_get, drop_done, item_at}
use Rattle.chunk_map.specs.KeyParts.{IsPart, part_of, key_parts}

pub field_missing : (s : List ℕ) (ss : Steps) (ps : List (List ℕ × Tree)) → find s ps ≡ None → (meets_array (s ∷ ss) (doc (pairs_of ps)) ≡ false) × (let none : Option Tree = None in none ≡ plain (s ∷ ss) (doc (pairs_of ps)))
field_missing s ss ps e = (rw (entries_pairs ps, e) refl, rw (entries_pairs ps, e) refl)

module _ {E : Type 0} where
  -- a field that is there decides
  pub field_found : (r : Result (Option (Bor Value)) E) (s : List ℕ) (ss : Steps) (ps : List (List ℕ × Tree)) (t : Tree) → find s ps ≡ Some t → IsPart r ss t → IsPart r (s ∷ ss) (doc (pairs_of ps))
  field_found (Ok o) s ss ps t e h = (rw (entries_pairs ps, e) h.0, rw (entries_pairs ps, e) h.1)
  field_found (Err x) s ss ps t e h = rw (entries_pairs ps, e) h

  pub whole_path : (r : Result (Option (Bor Value)) E) (ss : Steps) (s : List ℕ) (t : Tree) → 1 ≤ length ss → s ≡ get_or ss 0 s → IsPart r (s ∷ rest_of ss) t → IsPart r ss t
  whole_path r [] s t le e h = absurd (omega arith)
  whole_path r (x ∷ xs) s t le e h = subst (λ (l : Steps). IsPart r l t) (λ i. e i ∷ rest_is x xs i) h

-- ---- part after part

abbrev pub behind : List Tree → Result (List Tree) ℕ → Result (List Tree) ℕ
behind front (Ok ts) = Ok (front ++ ts)
behind front (Err part) = Err part

behind_part : (front : List Tree) (t : Tree) (r : Result (List Tree) ℕ) → behind front (with_part t r) ≡ behind (front ++ t ∷ []) r
behind_part front t (Ok ts) = ap (λ (l : List Tree). Ok l) (sym (append_assoc front (t ∷ []) ts))
behind_part front t (Err part) = refl

-- the next part is there
pub part_step : (n i : ℕ) (front : List Tree) (paths : List Steps) (p : Steps) (t : Tree) → i < length paths → p ≡ get_or paths i p → meets_array p t ≡ false → behind front (key_from n (drop i paths) t) ≡ behind (front ++ part_value (plain p t) ∷ []) (key_from (n + 1) (drop (i + 1) paths) t)
part_step n i front paths p t lt e f = rw (drop_get paths i p (item_at paths i p lt e), f, add-one n) (behind_part front (part_value (plain p t)) (key_from (suc n) (drop (i + 1) paths) t))

-- the next part meets an array
pub part_met : (n i : ℕ) (front : List Tree) (paths : List Steps) (p : Steps) (t : Tree) → i < length paths → p ≡ get_or paths i p → meets_array p t ≡ true → behind front (key_from n (drop i paths) t) ≡ Err n
part_met n i front paths p t lt e f = rw (drop_get paths i p (item_at paths i p lt e), f) refl

pub parts_done : (n i : ℕ) (front : List Tree) (paths : List Steps) (t : Tree) → length paths ≤ i → behind front (key_from n (drop i paths) t) ≡ Ok front
parts_done n i front paths t le = rw (drop_done paths i le) (ap (λ (l : List Tree). Ok l) (append-nil front))

pub parts_more : (i : ℕ) (parts : List (Option (Bor Value))) (v : Option (Bor Value)) → i < length parts → key_parts (i + 1) (set parts i v) ≡ key_parts i parts ++ part_of v ∷ []
parts_more i parts v lt = ap (map part_of) (take_more_set parts i v lt) ∙ map-append part_of (take i parts) (v ∷ [])

pub same_part : (front : List Tree) (o p : Option Tree) (r : Result (List Tree) ℕ) → o ≡ p → behind (front ++ part_value o ∷ []) r ≡ behind (front ++ part_value p ∷ []) r
same_part front o p r e = ap (λ (q : Option Tree). behind (front ++ part_value q ∷ []) r) e

pub parts_length : (paths : List Steps) (parts : List (Option (Bor Value))) → length paths ≤ length parts → length (key_parts (length paths) parts) ≡ length paths
parts_length paths parts le = length-map (take (length paths) parts) part_of ∙ omega (arith, length-take (length paths) parts)

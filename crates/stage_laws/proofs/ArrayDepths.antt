-- How deep what the operators of arrays and sets give is nested.
use Rattle.std.proofs.Common.{◌≡◌, ℕ, suc, ◌<◌, ◌≤◌, Bool, true, false, cond, List, [], ◌∷◌, ◌++◌, map, take, drop, reverse, length, arith}
use Rattle.std.specs.Prelude.{Option, Some, Ok, ℤ, pos, negsuc, max, nat_lt, unsigned_abs, int_lt, fold, filter, not}
use Rattle.std.specs.List.{flat_map, slice_get, range_with_len}
use Rattle.std.specs.Ordering.{int_eq}
use Rattle.bson_value.specs.Tree.{Tree}
use Rattle.bson_value.specs.Operands.{Outcome, Operand, both, all, array_in, whole_in, gives_array, row}
use Rattle.bson_value.specs.ArrayRows.{item_at, array_elem_at_row, first_row, last_row, concat_arrays_row, start_in, end_items, middle_items, slice_row, reverse_array_row, edge_in, steps_between, numbers_from, range_of, range_row}
use Rattle.bson_value.specs.SetRows.{same, has, firsts, in_all, intersection, set_union_row, set_intersection_row, set_difference_row}
use Rattle.expr_tree.specs.Rows.{found_depth}
use Rattle.stage_laws.proofs.Inside.{Each, IsInside, each_take, each_drop, each_reverse, each_filter, each_get, each_joined, each_flat, each_map, map_each, each_weaker, list_depth, deeper}
use Rattle.stage_laws.proofs.Fitting.{Fits, found_inside, row_fits, row_any, both_given, all_given, array_given}

-- the first operand, and each operand, is nested at most n deep
abbrev pub FirstWithin : ℕ → List (Option Tree) → Type 0
FirstWithin n [] = Unit {0}
FirstWithin n (v ∷ vs) = found_depth v ≤ n

abbrev pub AllWithin : ℕ → List (Option Tree) → Type 0
AllWithin n vs = Each (λ v. found_depth v ≤ n) vs

-- what arrays within n are made into
abbrev pub made_depth : ℕ → ℕ
made_depth n = max (suc n) 2

-- ---- a part of an array

module _ (n : ℕ) where
  abbrev Inside : List Tree → Type 0
  Inside ts = Each (IsInside n) ts

  part_row : {A : Type 0} (v : Option Tree) (b : Operand A) (value : List Tree × A → Outcome) → found_depth v ≤ n → ((ts : List Tree) (x : A) → 0 < n → Inside ts → Fits n (value (ts, x))) → Fits n (row (both (array_in v) b) value)
  part_row v b value h f =
      row_fits n (both (array_in v) b) value (λ p e. let q = array_given n v p.0 h (both_given (array_in v) b p e).0 in f p.0 p.1 q.0 q.1)

  array_row : (v : Option Tree) (value : List Tree → Outcome) → found_depth v ≤ n → ((ts : List Tree) → 0 < n → Inside ts → Fits n (value ts)) → Fits n (row (array_in v) value)
  array_row v value h f = row_fits n (array_in v) value (λ ts e. let q = array_given n v ts h e in f ts q.0 q.1)

  item_fits : (i : ℤ) (ts : List Tree) → Inside ts → found_depth (item_at i ts) ≤ n
  item_fits (pos i) ts h = found_inside n (slice_get ts i) (each_get (IsInside n) ts i h)
  item_fits (negsuc i) ts h = found_inside n (slice_get (reverse ts) i) (each_get (IsInside n) (reverse ts) i (each_reverse (IsInside n) ts h))

  pub elem_at_fits : (vs : List (Option Tree)) → FirstWithin n vs → Fits n (array_elem_at_row vs)
  elem_at_fits [] h = tt
  elem_at_fits (v ∷ []) h = tt
  elem_at_fits (v ∷ i ∷ []) h = part_row v (whole_in i) (λ p. Ok (item_at p.1 p.0)) h (λ ts x lt k. item_fits x ts k)
  elem_at_fits (v ∷ i ∷ w ∷ vs) h = tt

  pub first_fits : (vs : List (Option Tree)) → FirstWithin n vs → Fits n (first_row vs)
  first_fits [] h = tt
  first_fits (v ∷ []) h = array_row v (λ ts. Ok (item_at (pos 0) ts)) h (λ ts lt k. item_fits (pos 0) ts k)
  first_fits (v ∷ w ∷ vs) h = tt

  pub last_fits : (vs : List (Option Tree)) → FirstWithin n vs → Fits n (last_row vs)
  last_fits [] h = tt
  last_fits (v ∷ []) h = array_row v (λ ts. Ok (item_at (negsuc 0) ts)) h (λ ts lt k. item_fits (negsuc 0) ts k)
  last_fits (v ∷ w ∷ vs) h = tt

  pub reverse_fits : (vs : List (Option Tree)) → FirstWithin n vs → Fits n (reverse_array_row vs)
  reverse_fits [] h = tt
  reverse_fits (v ∷ []) h = array_row v (λ ts. gives_array (reverse ts)) h (λ ts lt k. list_depth n (reverse ts) lt (each_reverse (IsInside n) ts k))
  reverse_fits (v ∷ w ∷ vs) h = tt

  ends_inside : (i : ℤ) (ts : List Tree) → Inside ts → Inside (end_items i ts)
  ends_inside (pos i) ts h = each_take (IsInside n) i ts h
  ends_inside (negsuc i) ts h = each_drop (IsInside n) (start_in (length ts) (negsuc i)) ts h

  middle_if : (b : Bool) (ts : List Tree) (c : Outcome) → 0 < n → Inside ts → Fits n c → Fits n (cond b (gives_array ts) c)
  middle_if true ts c lt h k = list_depth n ts lt h
  middle_if false ts c lt h k = k

  middle_fits : (i k : ℤ) (ts : List Tree) → 0 < n → Inside ts → Fits n (middle_items i k ts)
  middle_fits i k ts lt h =
      middle_if (int_lt (pos 0) k) (take (unsigned_abs k) (drop (start_in (length ts) i) ts)) _ lt (each_take (IsInside n) (unsigned_abs k) (drop (start_in (length ts) i) ts) (each_drop (IsInside n) (start_in (length ts) i) ts h)) tt

  pub slice_fits : (vs : List (Option Tree)) → FirstWithin n vs → Fits n (slice_row vs)
  slice_fits [] h = tt
  slice_fits (v ∷ []) h = tt
  slice_fits (v ∷ i ∷ []) h = part_row v (whole_in i) (λ p. gives_array (end_items p.1 p.0)) h (λ ts x lt k. list_depth n (end_items x ts) lt (ends_inside x ts k))
  slice_fits (v ∷ i ∷ j ∷ []) h = part_row v (both (whole_in i) (whole_in j)) (λ p. middle_items p.1.0 p.1.1 p.0) h (λ ts x lt k. middle_fits x.0 x.1 ts lt k)
  slice_fits (v ∷ i ∷ j ∷ w ∷ vs) h = tt

  -- ---- an array of others

  pub made_list : (ts : List Tree) → Inside ts → Fits (made_depth n) (gives_array ts)
  made_list ts h = list_depth (made_depth n) ts (omega arith) (deeper n (made_depth n) ts (omega arith) h)

  arrays_given : (vs : List (Option Tree)) (tss : List (List Tree)) → AllWithin n vs → all (map array_in vs) ≡ Ok (Some tss) → Each Inside tss
  arrays_given vs tss h e =
      all_given Inside (map array_in vs) tss
      (map_each (λ o. (ts : List Tree) → o ≡ Ok (Some ts) → Inside ts) array_in vs (each_weaker (λ v. found_depth v ≤ n) (λ v. (ts : List Tree) → array_in v ≡ Ok (Some ts) → Inside ts) (λ v le ts f. (array_given n v ts le f).1) vs h)) e

  arrays_row : (vs : List (Option Tree)) (value : List (List Tree) → List Tree) → AllWithin n vs → ((tss : List (List Tree)) → Each Inside tss → Inside (value tss)) → Fits (made_depth n) (row (all (map array_in vs)) (λ tss. gives_array (value tss)))
  arrays_row vs value h f = row_fits (made_depth n) (all (map array_in vs)) (λ tss. gives_array (value tss)) (λ tss e. made_list (value tss) (f tss (arrays_given vs tss h e)))

  pub concat_fits : (vs : List (Option Tree)) → AllWithin n vs → Fits (made_depth n) (concat_arrays_row vs)
  concat_fits vs h = arrays_row vs (λ tss. fold ◌++◌ [] tss) h (λ tss k. each_joined (IsInside n) tss [] tt k)

  firsts_inside : (ts : List Tree) → Inside ts → Inside (firsts ts)
  firsts_inside [] h = tt
  firsts_inside (t ∷ ts) h = (h.0, each_filter (IsInside n) (λ u. not (same t u)) (firsts ts) (firsts_inside ts h.1))

  pub union_fits : (vs : List (Option Tree)) → AllWithin n vs → Fits (made_depth n) (set_union_row vs)
  union_fits vs h = arrays_row vs (λ tss. firsts (flat_map (λ ts. ts) tss)) h (λ tss k. firsts_inside (flat_map (λ ts. ts) tss) (each_flat (IsInside n) tss k))

  common_inside : (tss : List (List Tree)) → Each Inside tss → Inside (intersection tss)
  common_inside [] h = tt
  common_inside (ts ∷ tss) h = each_filter (IsInside n) (in_all tss) (firsts ts) (firsts_inside ts h.0)

  pub intersection_fits : (vs : List (Option Tree)) → AllWithin n vs → Fits (made_depth n) (set_intersection_row vs)
  intersection_fits vs h = arrays_row vs intersection h common_inside

  pub difference_fits : (vs : List (Option Tree)) → AllWithin n vs → Fits (made_depth n) (set_difference_row vs)
  difference_fits [] h = tt
  difference_fits (v ∷ []) h = tt
  difference_fits (v ∷ w ∷ []) h =
      row_fits (made_depth n) (both (array_in v) (array_in w)) (λ p. gives_array (filter (λ t. not (has p.1 t)) (firsts p.0)))
      (λ p e. let k = (array_given n v p.0 h.0 (both_given (array_in v) (array_in w) p e).0).1 in made_list (filter (λ t. not (has p.1 t)) (firsts p.0)) (each_filter (IsInside n) (λ t. not (has p.1 t)) (firsts p.0) (firsts_inside p.0 k)))
  difference_fits (v ∷ w ∷ u ∷ vs) h = tt

  -- ---- a range

  range_if : (a b : Bool) (ts : List Tree) (c d : Outcome) → Each (IsInside 1) ts → Fits (made_depth n) c → Fits (made_depth n) d → Fits (made_depth n) (cond a c (cond b d (gives_array ts)))
  range_if true b ts c d h hc hd = hc
  range_if false true ts c d h hc hd = hd
  range_if false false ts c d h hc hd = list_depth (made_depth n) ts (omega arith) (deeper 1 (made_depth n) ts (omega arith) h)

  range_of_fits : (start end step : ℤ) → Fits (made_depth n) (range_of start end step)
  range_of_fits start end step =
      range_if (int_eq step (pos 0)) (nat_lt 1_048_576 (steps_between start end step)) (numbers_from start step (steps_between start end step)) _ _
      (each_map (IsInside 1) _ (range_with_len 0 (steps_between start end step)) (λ k. omega arith)) tt tt

  pub range_fits : (vs : List (Option Tree)) → Fits (made_depth n) (range_row vs)
  range_fits [] = tt
  range_fits (a ∷ []) = tt
  range_fits (a ∷ b ∷ []) = row_any (made_depth n) (both (edge_in a) (edge_in b)) (λ p. range_of p.0 p.1 (pos 1)) (λ p. range_of_fits p.0 p.1 (pos 1))
  range_fits (a ∷ b ∷ s ∷ []) = row_any (made_depth n) (both (edge_in a) (both (edge_in b) (edge_in s))) (λ p. range_of p.0 p.1.0 p.1.1) (λ p. range_of_fits p.0 p.1.0 p.1.1)
  range_fits (a ∷ b ∷ s ∷ v ∷ vs) = tt

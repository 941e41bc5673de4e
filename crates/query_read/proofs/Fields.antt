-- The first field of a document, the values of an array, whole numbers.
use Rattle.std.proofs.Common.{◌≡◌, ℕ, zero, suc, true, List, [], ◌∷◌, length, refl, sym, ap, arith}
use Rattle.std.specs.Prelude.{ℤ, pos, negsuc, ◌≤ℤ◌, ◌<ℤ◌, ◌≢◌, unsigned_abs, Option, Some, None, slice_get}
use Rattle.std.specs.Option.{option_map, is_some}
use Rattle.std.proofs.lemmas.Int.{ints}
use Rattle.bson_value.specs.Tree.{Tree, trees_of, members, pairs_of}
use Rattle.expr_tree.specs.Forms.{has_sign}
use Rattle.query_read.specs.Reading.{begins_with_test, has_pairs, has_trees}
use Rattle.query_read.specs.Words.{operator_named, type_numbered, type_numbers, among_numbers}
use Rattle.query_read.specs.Written.{has_operator}

pub members_trees : (ts : List Tree) → members (trees_of ts) ≡ ts
members_trees [] = refl
members_trees (t ∷ ts) = ap (λ us. t ∷ us) (members_trees ts)

pub first_sign : (ps : List (List ℕ × Tree)) (k : List ℕ) → option_map (λ (p : List ℕ × Tree). p.0) (slice_get ps 0) ≡ Some k → has_sign k ≡ has_operator (pairs_of ps)
first_sign [] k h = absurd cc
first_sign (p ∷ ps) k h = let e : p.0 ≡ k = cc in ap has_sign (sym e)

pub first_test : (ps : List (List ℕ × Tree)) (k : List ℕ) → option_map (λ (p : List ℕ × Tree). p.0) (slice_get ps 0) ≡ Some k → is_some (operator_named k) ≡ begins_with_test (pairs_of ps)
first_test [] k h = absurd cc
first_test (p ∷ ps) k h = let e : p.0 ≡ k = cc in ap (λ n. is_some (operator_named n)) (sym e)

pub positive_number : (z : ℤ) (n : ℕ) → pos 0 ≤ℤ z → n ≡ unsigned_abs z → among_numbers n type_numbers ≡ type_numbered z
unfolding type_numbered
positive_number (pos k) n h e = ap (λ m. among_numbers m type_numbers) e
positive_number (negsuc k) n h e = absurd (omega (arith, ints))

pub least_number : (z : ℤ) (n : ℕ) → z <ℤ pos 0 → n ≡ unsigned_abs z → n ≡ 1 → Some 255 ≡ type_numbered z
unfolding type_numbered
least_number (pos k) n h e i = absurd (omega (arith, ints))
least_number (negsuc zero) n h e i = refl
least_number (negsuc (suc k)) n h e i = absurd (omega arith)

pub no_number : (z : ℤ) (n : ℕ) → z <ℤ pos 0 → n ≡ unsigned_abs z → n ≢ 1 → None ≡ type_numbered z
unfolding type_numbered
no_number (pos k) n h e i = absurd (omega (arith, ints))
no_number (negsuc zero) n h e i = absurd (i e)
no_number (negsuc (suc k)) n h e i = refl

pub some_fields : (ps : List (List ℕ × Tree)) → length ps ≢ 0 → has_pairs (pairs_of ps) ≡ true
some_fields [] h = absurd (h refl)
some_fields (p ∷ ps) h = refl

pub some_items : (ts : List Tree) → length ts ≢ 0 → has_trees (trees_of ts) ≡ true
some_items [] h = absurd (h refl)
some_items (t ∷ ts) h = refl

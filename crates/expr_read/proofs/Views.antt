-- The fields of a document and the items of an array, with their readings.
use Rattle.std.proofs.Common.{◌≡◌, ℕ, zero, suc, ◌<◌, true, false, cond, List, [], ◌∷◌, length, refl, sym, ap, ◌∙◌, arith}
use Rattle.std.specs.Prelude.{◌≤◌, Option, Some, None, IfSome, slice_get, ◌||◌}
use Rattle.std.specs.Option.{option_map, is_some}
use Rattle.std.specs.Str.{bytes_eq}
use Rattle.bson_value.specs.Pairs.{find}
use Rattle.bson_value.specs.Tree.{Tree, tree_size, pairs_of, pairs_size, trees_of, trees_size}
use Rattle.expr_tree.specs.Forms.{is_bound}
use Rattle.expr_read.specs.Reading.{seen_of, fields_seen, items_seen, names_of, operator_in}

pub count_seen : (ps : List (List ℕ × Tree)) → length ps ≡ length (fields_seen ps)
count_seen [] = refl
count_seen (p ∷ ps) = ap suc (count_seen ps)

pub count_items_seen : (ts : List Tree) → length ts ≡ length (items_seen ts)
count_items_seen [] = refl
count_items_seen (t ∷ ts) = ap suc (count_items_seen ts)

find_seen : (n : List ℕ) (ps : List (List ℕ × Tree)) → option_map seen_of (find n ps) ≡ find n (fields_seen ps)
find_seen n [] = refl
find_seen n (p ∷ ps) = elim (bytes_eq p.0 n) as (λ b. option_map seen_of (cond b (Some p.1) (find n ps)) ≡ cond b (Some (seen_of p.1)) (find n (fields_seen ps))) [ true ↦ refl | false ↦ find_seen n ps ]

mapped_twice : {A : Type 0} (f : A → Tree) (o : Option A) → option_map (λ x. seen_of (f x)) o ≡ option_map seen_of (option_map f o)
mapped_twice f None = refl
mapped_twice f (Some x) = refl

pub found_seen : {A : Type 0} (f : A → Tree) (o : Option A) (n : List ℕ) (ps : List (List ℕ × Tree)) → option_map f o ≡ find n ps → option_map (λ x. seen_of (f x)) o ≡ find n (fields_seen ps)
found_seen f o n ps e = mapped_twice f o ∙ ap (option_map seen_of) e ∙ find_seen n ps

find_smaller : (n : List ℕ) (ps : List (List ℕ × Tree)) (t : Tree) → Some t ≡ find n ps → tree_size t < pairs_size (pairs_of ps)
find_smaller n [] t e = absurd cc
find_smaller n (p ∷ ps) t e = elim (bytes_eq p.0 n) as (λ b. Some t ≡ cond b (Some p.1) (find n ps) → tree_size t < pairs_size (pairs_of (p ∷ ps))) [ true ↦ λ h. (let d : t ≡ p.1 = cc in rw d (omega arith)) | false ↦ λ h. omega (arith, find_smaller n ps t h) ] e

pub found_smaller : {A : Type 0} (f : A → Tree) (o : Option A) (n : List ℕ) (ps : List (List ℕ × Tree)) → option_map f o ≡ find n ps → IfSome o (λ x. tree_size (f x) < pairs_size (pairs_of ps))
found_smaller f None n ps e = tt
found_smaller f (Some x) n ps e = find_smaller n ps (f x) e

get_seen : (ts : List Tree) (i : ℕ) → option_map seen_of (slice_get ts i) ≡ slice_get (items_seen ts) i
get_seen [] i = refl
get_seen (t ∷ ts) zero = refl
get_seen (t ∷ ts) (suc i) = get_seen ts i

pub got_seen : (ts : List Tree) (i : ℕ) (t : Tree) → slice_get ts i ≡ Some t → Some (seen_of t) ≡ slice_get (items_seen ts) i
got_seen ts i t e = ap (option_map seen_of) (sym e) ∙ get_seen ts i

pub got_smaller : (ts : List Tree) (i : ℕ) (t : Tree) → slice_get ts i ≡ Some t → tree_size t < trees_size (trees_of ts)
got_smaller [] i t e = absurd cc
got_smaller (x ∷ ts) zero t e = let d : x ≡ t = cc in rw (← d) (omega arith)
got_smaller (x ∷ ts) (suc i) t e = omega (arith, got_smaller ts i t e)

none_past : {A : Type 0} (xs : List A) (i : ℕ) → length xs ≤ i → slice_get xs i ≡ None
none_past [] i h = refl
none_past (x ∷ xs) zero h = absurd (let f : ⊥ = omega (arith, h) in f)
none_past (x ∷ xs) (suc i) h = none_past xs i (omega (arith, h))

pub none_seen : (ts : List Tree) (i : ℕ) → length ts ≤ i → None ≡ slice_get (items_seen ts) i
none_seen ts i h = sym (none_past (items_seen ts) i (rw (← count_items_seen ts) h))

bound_named : (x : List ℕ) (ps : List (List ℕ × Tree)) → is_some (find x ps) ≡ is_bound x (names_of (fields_seen ps))
bound_named x [] = refl
bound_named x (p ∷ ps) = elim (bytes_eq p.0 x) as (λ b. is_some (cond b (Some p.1) (find x ps)) ≡ (b || is_bound x (names_of (fields_seen ps)))) [ true ↦ refl | false ↦ bound_named x ps ]

some_mapped : {A B : Type 0} (f : A → B) (o : Option A) → is_some o ≡ is_some (option_map f o)
some_mapped f None = refl
some_mapped f (Some x) = refl

pub bound_field : {A : Type 0} (f : A → Tree) (o : Option A) (x : List ℕ) (ps : List (List ℕ × Tree)) → option_map f o ≡ find x ps → is_some o ≡ is_bound x (names_of (fields_seen ps))
bound_field f o x ps e = some_mapped f o ∙ ap (λ p. is_some p) e ∙ bound_named x ps

pub operator_seen : (ps : List (List ℕ × Tree)) → operator_in ps ≡ operator_in (fields_seen ps)
operator_seen [] = refl
operator_seen (p ∷ []) = refl
operator_seen (p ∷ q ∷ ps) = refl

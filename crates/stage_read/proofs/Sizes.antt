-- Parts of values are smaller.
use Rattle.std.proofs.Common.{◌≡◌, ℕ, zero, suc, ◌+◌, ◌<◌, true, false, cond, List, [], ◌∷◌, length, drop, refl, arith}
use Rattle.std.specs.Prelude.{◌≤◌, Option, Some, None, IfSome, slice_get}
use Rattle.std.specs.Option.{option_map}
use Rattle.std.specs.Str.{bytes_eq}
use Rattle.bson_value.specs.Pairs.{find}
use Rattle.bson_value.specs.Tree.{Tree, doc, tree_size, pairs_of, pairs_size, trees_of, trees_size}
use Rattle.stage_read.specs.declared.place.Place.TheVariants as P
use Rattle.stage_read.specs.Parts.{only_field}
use Rattle.stage_read.specs.Written.{place_before}

pub item_size : (ts : List Tree) (i : ℕ) (t : Tree) → slice_get ts i ≡ Some t → tree_size t < trees_size (trees_of ts)
item_size [] i t p = absurd cc
item_size (x ∷ ts) zero t p = let e : x ≡ t = cc in rw (← e) (omega arith)
item_size (x ∷ ts) (suc i) t p = omega (arith, item_size ts i t p)

pub field_size : (ps : List (List ℕ × Tree)) (i : ℕ) (t : Tree) → option_map (λ (p : List ℕ × Tree). p.1) (slice_get ps i) ≡ Some t → tree_size t < pairs_size (pairs_of ps)
field_size [] i t p = absurd cc
field_size (x ∷ ps) zero t p = let e : x.1 ≡ t = cc in rw (← e) (omega arith)
field_size (x ∷ ps) (suc i) t p = omega (arith, field_size ps i t p)

find_smaller : (n : List ℕ) (ps : List (List ℕ × Tree)) (t : Tree) → Some t ≡ find n ps → tree_size t < pairs_size (pairs_of ps)
find_smaller n [] t e = absurd cc
find_smaller n (p ∷ ps) t e = elim (bytes_eq p.0 n) as (λ b. Some t ≡ cond b (Some p.1) (find n ps) → tree_size t < pairs_size (pairs_of (p ∷ ps))) [ true ↦ λ h. (let d : t ≡ p.1 = cc in rw d (omega arith)) | false ↦ λ h. omega (arith, find_smaller n ps t h) ] e

pub found_smaller : {A : Type 0} (f : A → Tree) (o : Option A) (n : List ℕ) (ps : List (List ℕ × Tree)) → option_map f o ≡ find n ps → IfSome o (λ x. tree_size (f x) < pairs_size (pairs_of ps))
found_smaller f None n ps e = tt
found_smaller f (Some x) n ps e = find_smaller n ps (f x) e

-- a document of one field
pub one_field : (ds : List (List ℕ × Tree)) (k : List ℕ) (v : Tree) → length ds ≡ 1 → option_map (λ (p : List ℕ × Tree). p.0) (slice_get ds 0) ≡ Some k → option_map (λ (p : List ℕ × Tree). p.1) (slice_get ds 0) ≡ Some v → Some (k, v) ≡ only_field (doc (pairs_of ds))
one_field [] k v l p q = absurd cc
one_field (d ∷ []) k v l p q = let e : d.0 ≡ k = cc in let f : d.1 ≡ v = cc in rw (← e, ← f) refl
one_field (d ∷ e ∷ ds) k v l p q = absurd (let f : ⊥ = omega (arith, l) in f)

pub not_one_field : (ds : List (List ℕ × Tree)) → ¬ (length ds ≡ 1) → None ≡ only_field (doc (pairs_of ds))
not_one_field [] h = refl
not_one_field (d ∷ []) h = absurd (h refl)
not_one_field (d ∷ e ∷ ds) h = refl

-- places of stages
pub others_follow : (ts : List Tree) (i : ℕ) → i < length ts → P.Other ≡ place_before (trees_of (drop i ts))
others_follow [] i h = absurd (let f : ⊥ = omega (arith, h) in f)
others_follow (t ∷ ts) zero h = refl
others_follow (t ∷ ts) (suc i) h = others_follow ts i (omega (arith, h))

pub none_follow : (ts : List Tree) (i : ℕ) → length ts ≤ i → P.Last ≡ place_before (trees_of (drop i ts))
none_follow [] zero h = refl
none_follow [] (suc i) h = refl
none_follow (t ∷ ts) zero h = absurd (let f : ⊥ = omega (arith, h) in f)
none_follow (t ∷ ts) (suc i) h = none_follow ts i (omega (arith, h))

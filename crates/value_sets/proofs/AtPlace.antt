-- What a document or an array holds at a place.
use Rattle.std.proofs.Common.{◌≡◌, ℕ, zero, suc, ◌+◌, ◌<◌, ◌≤◌, List, [], ◌∷◌, length, drop, get_or, refl, arith, add-one}
use Rattle.std.proofs.Math.Seq.{drop-cons}
use Rattle.std.specs.Prelude.{Some, slice_get}
use Rattle.std.specs.Option.{option_map}
use Rattle.value_sets.specs.Digest.{mixed, mixed_bytes, digest, pairs_digest, trees_digest}
use Rattle.bson_value.specs.Tree.{Tree, pairs_of, pairs_size, trees_of, trees_size, tree_size}

pub pair_at : (ps : List (List ℕ × Tree)) (i : ℕ) (n : List ℕ) (t : Tree) → option_map (λ p. p.0) (slice_get ps i) ≡ Some n → option_map (λ p. p.1) (slice_get ps i) ≡ Some t → drop i ps ≡ (n, t) ∷ drop (suc i) ps
pair_at [] i n t e f = absurd cc
pair_at (p ∷ ps) zero n t e f = let a : p.0 ≡ n = cc in let b : p.1 ≡ t = cc in λ j. (a j, b j) ∷ ps
pair_at (p ∷ ps) (suc i) n t e f = pair_at ps i n t e f

pub pair_fits : (ps : List (List ℕ × Tree)) (i : ℕ) (t : Tree) → option_map (λ p. p.1) (slice_get ps i) ≡ Some t → tree_size t < pairs_size (pairs_of ps)
pair_fits [] i t f = absurd cc
pair_fits (p ∷ ps) zero t f = let e : p.1 ≡ t = cc in rw (← e) (omega arith)
pair_fits (p ∷ ps) (suc i) t f = omega (arith, pair_fits ps i t f)

pub tree_at : (ts : List Tree) (i : ℕ) (t : Tree) → slice_get ts i ≡ Some t → drop i ts ≡ t ∷ drop (suc i) ts
tree_at [] i t e = absurd cc
tree_at (u ∷ us) zero t e = let f : u ≡ t = cc in λ j. f j ∷ us
tree_at (u ∷ us) (suc i) t e = tree_at us i t e

pub tree_fits : (ts : List Tree) (i : ℕ) (t : Tree) → slice_get ts i ≡ Some t → tree_size t < trees_size (trees_of ts)
tree_fits [] i t e = absurd cc
tree_fits (u ∷ us) zero t e = let f : u ≡ t = cc in rw (← f) (omega arith)
tree_fits (u ∷ us) (suc i) t e = omega (arith, tree_fits us i t e)

pub pairs_more : (h : ℕ) (ps : List (List ℕ × Tree)) (i : ℕ) (n : List ℕ) (t : Tree) → option_map (λ p. p.0) (slice_get ps i) ≡ Some n → option_map (λ p. p.1) (slice_get ps i) ≡ Some t
    → pairs_digest (mixed (mixed_bytes h n) (digest t)) (pairs_of (drop (i + 1) ps)) ≡ pairs_digest h (pairs_of (drop i ps))
pairs_more h ps i n t e f = rw (add-one, pair_at ps i n t e f) refl

pub trees_more : (h : ℕ) (ts : List Tree) (i : ℕ) (t : Tree) → slice_get ts i ≡ Some t → trees_digest (mixed h (digest t)) (trees_of (drop (i + 1) ts)) ≡ trees_digest h (trees_of (drop i ts))
trees_more h ts i t e = rw (add-one, tree_at ts i t e) refl

pub tree_next : (ts : List Tree) (i : ℕ) (t : Tree) → slice_get ts i ≡ Some t → drop i ts ≡ t ∷ drop (i + 1) ts
tree_next ts i t e = rw (add-one, tree_at ts i t e) refl

pub next_item : {A : Type 0} (xs : List A) (i : ℕ) (x : A) → i < length xs → x ≡ get_or xs i x → drop i xs ≡ x ∷ drop (i + 1) xs
next_item xs i x lt is = rw (add-one, drop-cons xs i x lt, ← is) refl

pub none_left : {A : Type 0} (xs : List A) (i : ℕ) → length xs ≤ i → drop i xs ≡ []
none_left [] zero le = refl
none_left [] (suc i) le = refl
none_left (x ∷ xs) zero le = absurd (omega arith)
none_left (x ∷ xs) (suc i) le = none_left xs i (omega arith)

pub pair_next : (ps : List (List ℕ × Tree)) (i : ℕ) (n : List ℕ) (t : Tree) → option_map (λ p. p.0) (slice_get ps i) ≡ Some n → option_map (λ p. p.1) (slice_get ps i) ≡ Some t → drop i ps ≡ (n, t) ∷ drop (i + 1) ps
pair_next ps i n t e f = rw (add-one, pair_at ps i n t e f) refl

-- Pairs and members, one after the other.
use Rattle.std.proofs.Common.{◌≡◌, ℕ, zero, suc, ◌<◌, List, [], ◌∷◌, ◌++◌, length, drop, get_or, replicate, true, refl, sym, ap, ◌∙◌, append_assoc, arith}
use Rattle.std.specs.Prelude.{Some, slice_get, not, ◌==◌}
use Rattle.std.specs.List.{list_all}
use Rattle.std.specs.Option.{option_map}
use Rattle.std.proofs.lemmas.Bool.{false≢true, and_parts}
use Rattle.bson_value.specs.Tree.{Tree, tree_size, pairs_of, pairs_size, trees_of, trees_size}
use Rattle.key_codec.specs.declared.collation.Collation.{Collation}
use Rattle.key_codec.specs.Seen.{seen, seen_pairs, seen_trees}
use Rattle.key_codec.proofs.Sights.{tag-seen}
use Rattle.key_codec.specs.Keyed.{tag, text_key, body_key, pairs_key, trees_key}

-- the i-th pair, as a collation sees it
pub record IsPairAt (k : Collation) (ps : List (List ℕ × Tree)) (i : ℕ) (n : List ℕ) (t : Tree) : Type 0 where
  pub bytes : pairs_key (seen_pairs k (pairs_of (drop i ps))) ≡ ((tag t ∷ (n ++ 0 ∷ [])) ++ body_key (seen k t)) ++ pairs_key (seen_pairs k (pairs_of (drop (suc i) ps)))
  pub smaller : tree_size t < pairs_size (pairs_of ps)

pub pair_is_at : (k : Collation) (ps : List (List ℕ × Tree)) (i : ℕ) (n : List ℕ) (t : Tree) → option_map (λ p. p.0) (slice_get ps i) ≡ Some n → option_map (λ p. p.1) (slice_get ps i) ≡ Some t → IsPairAt k ps i n t
pair_is_at k [] i n t e f = absurd cc
pair_is_at k (p ∷ ps) zero n t e f =
    let a : p.0 ≡ n = cc in
    let b : p.1 ≡ t = cc in
    record {
      bytes = rw (a, b, tag-seen k t, append_assoc n (0 ∷ []) (body_key (seen k t))) refl;
      smaller = rw (← b) (omega arith);
    }
pair_is_at k (p ∷ ps) (suc i) n t e f =
    let h = pair_is_at k ps i n t e f in
    record { bytes = h.bytes; smaller = omega (arith, h.smaller) }

-- the i-th member
pub record IsMemberAt (k : Collation) (ts : List Tree) (i : ℕ) (t : Tree) : Type 0 where
  pub bytes : trees_key (seen_trees k (trees_of (drop i ts))) ≡ ((tag t ∷ []) ++ body_key (seen k t)) ++ trees_key (seen_trees k (trees_of (drop (suc i) ts)))
  pub smaller : tree_size t < trees_size (trees_of ts)

pub member_is_at : (k : Collation) (ts : List Tree) (i : ℕ) (t : Tree) → slice_get ts i ≡ Some t → IsMemberAt k ts i t
member_is_at k [] i t e = absurd cc
member_is_at k (u ∷ ts) zero t e =
    let b : u ≡ t = cc in
    record { bytes = rw (b, tag-seen k t) refl; smaller = rw (← b) (omega arith) }
member_is_at k (u ∷ ts) (suc i) t e =
    let h = member_is_at k ts i t e in
    record { bytes = h.bytes; smaller = omega (arith, h.smaller) }

-- a head, a value and what follows
pub wrote : (out out1 out2 total head v rest0 rest1 : List ℕ) → out1 ≡ out ++ head → out2 ≡ out1 ++ v → rest0 ≡ (head ++ v) ++ rest1 → out ++ rest0 ≡ total → out2 ++ rest1 ≡ total
wrote out out1 out2 total head v rest0 rest1 a b r e =
    let regroup : ((out ++ head) ++ v) ++ rest1 ≡ out ++ ((head ++ v) ++ rest1) = simp append_assoc in
    rw (b, a) (regroup ∙ ap (λ (l : List ℕ). out ++ l) (sym r) ∙ e)

-- a text without byte 0 is written as it is
pub text_key-plain : (s : List ℕ) → list_all (λ b. not (b == 0)) s ≡ true → text_key s ≡ s ++ 0 ∷ 0 ∷ []
text_key-plain [] h = refl
text_key-plain (zero ∷ s) h = absurd (false≢true h)
text_key-plain (suc b ∷ s) h = ap (λ (l : List ℕ). suc b ∷ l) (text_key-plain s (and_parts _ _ h).1)

-- the i-th byte of a text
pub text_key-other : (s : List ℕ) (i b : ℕ) → i < length s → b ≡ get_or s i 0 → (b ≡ 0 → ⊥) → text_key (drop i s) ≡ b ∷ text_key (drop (suc i) s)
text_key-other [] i b lt e n = absurd (omega arith)
text_key-other (zero ∷ s) zero b lt e n = absurd (n e)
text_key-other (suc a ∷ s) zero b lt e n = rw e refl
text_key-other (a ∷ s) (suc i) b lt e n = text_key-other s i b (omega arith) e n

pub text_key-zero : (s : List ℕ) (i b : ℕ) → i < length s → b ≡ get_or s i 0 → b ≡ 0 → text_key (drop i s) ≡ b ∷ 1 ∷ text_key (drop (suc i) s)
text_key-zero [] i b lt e n = absurd (omega arith)
text_key-zero (zero ∷ s) zero b lt e n = rw n refl
text_key-zero (suc a ∷ s) zero b lt e n = absurd (omega arith)
text_key-zero (a ∷ s) (suc i) b lt e n = text_key-zero s i b (omega arith) e n

pub replicate-push : (n : ℕ) (b : ℕ) → replicate n b ++ b ∷ [] ≡ replicate (suc n) b
replicate-push zero b = refl
replicate-push (suc n) b = ap (λ (l : List ℕ). b ∷ l) (replicate-push n b)

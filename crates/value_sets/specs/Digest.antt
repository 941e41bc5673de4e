-- The number by which a set looks a member up. Members that compare equal have one.
use Rattle.std.specs.Prelude.{ℕ, ◌+◌, ◌*◌, ◌%◌, ◌^◌, List, [], ◌∷◌}
use Rattle.std.specs.Int.{cast_unsigned, w64}
use Rattle.bson_value.specs.Tree.{Tree, leaf, doc, list, Pairs, no_pairs, pair, Trees, no_trees, tree}
use Rattle.bson_value.specs.Order.{class, number, text_in}

-- a number with one more mixed in
unfoldable pub mixed : ℕ → ℕ → ℕ
mixed h x = ((h + x) % 2 ^ 64 * 11400714819323198485) % 2 ^ 64

-- with each byte mixed in
abbrev pub mixed_bytes : ℕ → List ℕ → ℕ
mixed_bytes h [] = h
mixed_bytes h (b ∷ bs) = mixed_bytes (mixed h b) bs

-- by what is compared within a class, so that an int32 and an int64 of one value have one number
abbrev pub head_digest : Tree → ℕ
head_digest t = mixed_bytes (mixed (class t) (cast_unsigned w64 (number t))) (text_in t)

-- by the head, and then by what the value holds
abbrev mutual
  pub digest : Tree → ℕ
  digest (leaf l) = head_digest (leaf l)
  digest (doc ps) = pairs_digest (head_digest (doc ps)) ps
  digest (list ts) = trees_digest (head_digest (list ts)) ts

  pub pairs_digest : ℕ → Pairs → ℕ
  pairs_digest h no_pairs = h
  pairs_digest h (pair n t ps) = pairs_digest (mixed (mixed_bytes h n) (digest t)) ps

  pub trees_digest : ℕ → Trees → ℕ
  trees_digest h no_trees = h
  trees_digest h (tree t ts) = trees_digest (mixed h (digest t)) ts

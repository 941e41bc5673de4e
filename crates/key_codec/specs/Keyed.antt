-- The bytes of a key. Their plain order is the order of the key's parts, and no part's bytes begin another's.
-- The order of values is the manual's ("Comparison/Sort Order"); the bytes that keep it are this crate's own.
use Rattle.std.specs.Prelude.{ℕ, zero, suc, ◌+◌, ◌-◌, ◌*◌, ◌/◌, ◌%◌, Bool, ℤ, pos, negsuc, List, [], ◌∷◌, ◌++◌, length, map, replicate, Option, Some, None, if◌then◌else◌}
use Rattle.std.specs.Int.{w64, to_be_bytes}
use Rattle.std.specs.Ordering.{ordering_reverse}
use Rattle.std.specs.Cmp.Lexicographic.{slice_cmp}
use Rattle.std.specs.declared.cmp.Ordering.{Ordering}
use Rattle.bson_value.specs.Tree.{Leaf, least, null, int, long, text, bin, id, flag, date, stamp, greatest, Tree, leaf, doc, list, Pairs, no_pairs, pair, Trees, no_trees, tree}
use Rattle.bson_value.specs.Order.{class, part_order}

-- a value's first byte: even, so that 3 is left for the mark of an empty array; and above 0, which ends documents and arrays
abbrev pub tag : Tree → ℕ
tag t = 2 * class t

-- the bytes from the first on that is not 0
abbrev pub significant : List ℕ → List ℕ
significant [] = []
significant (zero ∷ bs) = significant bs
significant (suc b ∷ bs) = suc b ∷ bs

-- a number's significant bytes, greatest first, behind 128 and how many they are
abbrev pub magnitude_key : ℕ → List ℕ
magnitude_key n = (128 + length (significant (to_be_bytes w64 n))) ∷ significant (to_be_bytes w64 n)

-- a signed number: -1 - n has the bytes of n, each taken from 255
abbrev pub signed_key : ℤ → List ℕ
signed_key (pos n) = magnitude_key n
signed_key (negsuc n) = map (λ b. 255 - b) (magnitude_key n)

-- a text: 1 follows each byte 0 of it, and two bytes 0 end it
abbrev pub text_key : List ℕ → List ℕ
text_key [] = 0 ∷ 0 ∷ []
text_key (zero ∷ bs) = 0 ∷ 1 ∷ text_key bs
text_key (suc b ∷ bs) = suc b ∷ text_key bs

-- a length: 255 for each whole 255 in it, then the rest
abbrev pub length_key : ℕ → List ℕ
length_key n = replicate (n / 255) 255 ++ n % 255 ∷ []

-- what follows a scalar's tag
abbrev pub leaf_key : Leaf → List ℕ
leaf_key least = []
leaf_key null = []
leaf_key (int n) = signed_key n
leaf_key (long n) = signed_key n
leaf_key (text s) = text_key s
leaf_key (bin k s) = length_key (length s) ++ k ∷ s
leaf_key (id s) = s
leaf_key (flag b) = (if b then 1 else 0) ∷ []
leaf_key (date n) = signed_key n
leaf_key (stamp n) = to_be_bytes w64 n
leaf_key greatest = []

abbrev mutual
  -- what follows a value's tag
  pub body_key : Tree → List ℕ
  body_key (leaf l) = leaf_key l
  body_key (doc ps) = pairs_key ps
  body_key (list ts) = trees_key ts

  -- for each pair the value's tag, the name, 0, and what follows the tag; then 0
  pub pairs_key : Pairs → List ℕ
  pairs_key no_pairs = 0 ∷ []
  pairs_key (pair n t ps) = (tag t ∷ (n ++ 0 ∷ body_key t)) ++ pairs_key ps

  -- each element with its tag; then 0
  pub trees_key : Trees → List ℕ
  trees_key no_trees = 0 ∷ []
  trees_key (tree t ts) = (tag t ∷ body_key t) ++ trees_key ts

-- a value, or the mark of an empty array
unfoldable pub found_key : Option Tree → List ℕ
found_key None = 3 ∷ []
found_key (Some t) = tag t ∷ body_key t

-- a part of a key: whether it falls, and its value or the mark
abbrev pub Part : Type 0
Part = Bool × Option Tree

-- in a falling part each byte is taken from 255
unfoldable pub part_key : Part → List ℕ
part_key p = if p.0 then map (λ b. 255 - b) (found_key p.1) else found_key p.1

-- a key: the bytes of its parts, joined
unfoldable pub keyed : List Part → List ℕ
keyed [] = []
keyed (p ∷ ps) = part_key p ++ keyed ps

-- the order of two parts of one direction, which is the first one's: turned round where they fall
abbrev pub directed_order : Part → Part → Ordering
directed_order p q = if p.0 then ordering_reverse (part_order p.1 q.1) else part_order p.1 q.1

-- the order of two lists of parts: the first that differs decides
abbrev pub parts_order : List Part → List Part → Ordering
parts_order = slice_cmp directed_order

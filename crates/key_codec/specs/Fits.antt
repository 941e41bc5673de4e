-- What fits into a key: numbers of 64 bits, texts of bytes, names without byte 0, and ObjectIds of twelve bytes.
use Rattle.std.specs.Prelude.{◌≡◌, ℕ, ◌<◌, ◌^◌, List, [], ◌∷◌, length, map, Option, Some, None, FitsSigned}
use Rattle.std.specs.Int.{w64}
use Rattle.bson_value.specs.Tree.{Leaf, least, null, int, long, text, bin, id, flag, date, stamp, greatest, Tree, leaf, doc, list, Pairs, no_pairs, pair, Trees, no_trees, tree}
use Rattle.bson_value.specs.Proper.{AreBytes, HasNoZero}
use Rattle.key_codec.specs.Keyed.{Part}

abbrev pub LeafFits : Leaf → Type 0
LeafFits least = Unit {0}
LeafFits null = Unit {0}
LeafFits (int n) = FitsSigned w64 n
LeafFits (long n) = FitsSigned w64 n
LeafFits (text s) = AreBytes s
LeafFits (bin k s) = (k < 2 ^ 8) × AreBytes s
LeafFits (id s) = (length s ≡ 12) × AreBytes s
LeafFits (flag b) = Unit {0}
LeafFits (date n) = FitsSigned w64 n
LeafFits (stamp n) = n < 2 ^ 64
LeafFits greatest = Unit {0}

pub record NameFits (n : List ℕ) : Type 0 where
  pub bytes : AreBytes n
  pub no_zero : HasNoZero n

abbrev mutual
  pub Fits : Tree → Type 0
  Fits (leaf l) = LeafFits l
  Fits (doc ps) = PairsFit ps
  Fits (list ts) = TreesFit ts

  pub PairsFit : Pairs → Type 0
  PairsFit no_pairs = Unit {0}
  PairsFit (pair n t ps) = NameFits n × Fits t × PairsFit ps

  pub TreesFit : Trees → Type 0
  TreesFit no_trees = Unit {0}
  TreesFit (tree t ts) = Fits t × TreesFit ts

-- a part's value, where it has one
abbrev pub FoundFits : Option Tree → Type 0
FoundFits None = Unit {0}
FoundFits (Some t) = Fits t

abbrev pub PartsFit : List Part → Type 0
PartsFit [] = Unit {0}
PartsFit (p ∷ ps) = FoundFits p.1 × PartsFit ps

-- the parts of two keys, with the same directions one by one
pub record AreAlike (ps qs : List Part) : Type 0 where
  pub directions : map (λ p. p.0) ps ≡ map (λ p. p.0) qs
  pub left : PartsFit ps
  pub right : PartsFit qs

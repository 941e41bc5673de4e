-- Each proper value fits into a key.
use Rattle.std.proofs.Common.{ℤ, FitsSigned, arith, rules}
use Rattle.std.specs.Int.{w32, w64}
use Rattle.std.proofs.lemmas.Int.{ints}
use Rattle.bson_value.specs.Tree.{Leaf, least, null, int, long, text, bin, id, flag, date, stamp, greatest, Tree, leaf, doc, list, Pairs, no_pairs, pair, Trees, no_trees, tree}
use Rattle.bson_value.specs.Proper.{IsLeaf, IsProper, ArePairs, AreProper}
use Rattle.key_codec.specs.Fits.{LeafFits, Fits, PairsFit, TreesFit}
use Rattle.key_codec.proofs.Octets.{AreOctets-utf8, AreBytes-octets}

wider : (n : ℤ) → FitsSigned w32 n → FitsSigned w64 n
wider n h = search (rules, arith, ints)

leaf_fits : (l : Leaf) → IsLeaf l → LeafFits l
leaf_fits least h = h
leaf_fits null h = h
leaf_fits (int n) h = wider n h
leaf_fits (long n) h = h
leaf_fits (text s) h = AreBytes-octets s (AreOctets-utf8 s h)
leaf_fits (bin k s) h = h
leaf_fits (id s) h = h
leaf_fits (flag b) h = h
leaf_fits (date n) h = h
leaf_fits (stamp n) h = h
leaf_fits greatest h = h

mutual
  pub proper_fits : (t : Tree) → IsProper t → Fits t
  proper_fits (leaf l) h = leaf_fits l h
  proper_fits (doc ps) h = pairs_fit ps h
  proper_fits (list ts) h = trees_fit ts h

  pairs_fit : (ps : Pairs) → ArePairs ps → PairsFit ps
  pairs_fit no_pairs h = h
  pairs_fit (pair n t ps) h = (record { bytes = AreBytes-octets n (AreOctets-utf8 n h.0.text); no_zero = h.0.no_zero }, proper_fits t h.2, pairs_fit ps h.3)

  trees_fit : (ts : Trees) → AreProper ts → TreesFit ts
  trees_fit no_trees h = h
  trees_fit (tree t ts) h = (proper_fits t h.0, trees_fit ts h.1)

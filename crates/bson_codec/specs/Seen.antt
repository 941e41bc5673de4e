-- The names of the pairs that were read so far.
use Rattle.std.specs.Prelude.{◌≡◌, ℕ, List, drop, is_some}
use Rattle.std.specs.Ordering.{nat_cmp}
use Rattle.std.specs.Cmp.Lexicographic.{slice_cmp}
use Rattle.std.specs.BTreeMap.{BTreeMap, get_by}
use denote.Ref.{Bor}
use Rattle.bson_value.specs.Tree.{Tree}
use Rattle.bson_value.specs.Pairs.{find}
use Rattle.bson_codec.specs.declared.seen.TheConstants.{FEW}

-- the tree has the names of the pairs behind the first few
pub record HasLater {X : Type 0} (tree : BTreeMap (Bor (List ℕ)) X) (pairs : List (List ℕ × Tree)) : Type 0 where
  pub names : (n : List ℕ) → is_some (get_by (λ k. slice_cmp nat_cmp n k.now) tree) ≡ is_some (find n (drop FEW pairs))

-- What a path reaches is nested less deep than the document.
use Rattle.std.proofs.Common.{ℕ, suc, ◌<◌, ◌≤◌, List, [], ◌∷◌, length, arith}
use Rattle.std.specs.Prelude.{Option, Some, None}
use Rattle.std.specs.Option.{IfSome, option_and_then}
use Rattle.bson_value.specs.Tree.{Tree, Pairs, leaf, doc, list, entries, members, trees_of}
use Rattle.bson_value.specs.Depth.{depth}
use Rattle.bson_value.specs.Pairs.{find}
use Rattle.bson_value.specs.Paths.{Steps, kept, in_doc, gather, in_value, reach, field_reach, plain, field_plain}
use Rattle.expr_tree.specs.Rows.{found_depth}
use Rattle.stage_laws.proofs.Inside.{Each, EachField, IsInside, each_find, in_members, in_entries, list_depth}

-- what is taken out of fields is nested less deep than n, where the fields are
abbrev Takes : (List (List ℕ × Tree) → Option Tree) → Type 0
Takes go = (n : ℕ) (ps : List (List ℕ × Tree)) → EachField (IsInside n) ps → IfSome (go ps) (IsInside n)

kept_inside : (n : ℕ) (o : Option Tree) (ts : List Tree) → IfSome o (IsInside n) → Each (IsInside n) ts → Each (IsInside n) (kept o ts)
kept_inside n None ts h k = k
kept_inside n (Some t) ts h k = (h, k)

module _ (go : List (List ℕ × Tree) → Option Tree) (takes : Takes go) where
  in_doc_inside : (n : ℕ) (t : Tree) → IsInside n t → IfSome (in_doc go t) (IsInside n)
  in_doc_inside n (leaf l) h = tt
  in_doc_inside n (doc ps) h = takes n (entries ps) (in_entries n ps (omega arith))
  in_doc_inside n (list ts) h = tt

  gathered_inside : (n : ℕ) (ts : List Tree) → Each (IsInside n) ts → Each (IsInside n) (gather go ts)
  gathered_inside n [] h = tt
  gathered_inside n (t ∷ ts) h = kept_inside n (in_doc go t) (gather go ts) (in_doc_inside n t h.0) (gathered_inside n ts h.1)

  in_value_inside : (n : ℕ) (t : Tree) → IsInside n t → IfSome (in_value go t) (IsInside n)
  in_value_inside n (leaf l) h = tt
  in_value_inside n (doc ps) h = takes n (entries ps) (in_entries n ps (omega arith))
  in_value_inside n (list ts) h =
      let m = depth (list ts) in
      let k : depth (list (trees_of (gather go (members ts)))) ≤ m = list_depth m (gather go (members ts)) (omega arith) (gathered_inside m (members ts) (in_members m ts (omega arith))) in
      omega arith

then_inside : (n : ℕ) (f : Tree → Option Tree) (o : Option Tree) → IfSome o (IsInside n) → ((t : Tree) → IsInside n t → IfSome (f t) (IsInside n)) → IfSome (option_and_then f o) (IsInside n)
then_inside n f None h k = tt
then_inside n f (Some t) h k = k t h

pub reach_inside : (ss : Steps) (n : ℕ) (t : Tree) → IsInside n t → IfSome (reach ss t) (IsInside n)
reach_inside [] n t h = h
reach_inside (s ∷ ss) n t h =
    in_value_inside (field_reach s ss) (λ m ps k. then_inside m (reach ss) (find s ps) (each_find (IsInside m) s ps k) (reach_inside ss m)) n t h

pub plain_inside : (ss : Steps) (n : ℕ) (t : Tree) → IsInside n t → IfSome (plain ss t) (IsInside n)
plain_inside [] n t h = h
plain_inside (s ∷ ss) n t h =
    in_doc_inside (field_plain s ss) (λ m ps k. then_inside m (plain ss) (find s ps) (each_find (IsInside m) s ps k) (plain_inside ss m)) n t h

-- of any value
pub reach_within : (ss : Steps) (n : ℕ) (t : Tree) → depth t ≤ n → found_depth (reach ss t) ≤ n
reach_within ss n t h = some_within (reach ss t) (reach_inside ss (suc n) t (omega arith))
  where
    some_within : (o : Option Tree) → IfSome o (IsInside (suc n)) → found_depth o ≤ n
    some_within None k = omega arith
    some_within (Some u) k = omega arith

-- of a document, by a step or more
pub reach_in_document : (ss : Steps) (n : ℕ) (ps : Pairs) → 0 < length ss → depth (doc ps) ≤ n → IfSome (reach ss (doc ps)) (IsInside n)
reach_in_document [] n ps lt h = absurd (omega arith)
reach_in_document (s ∷ ss) n ps lt h = then_inside n (reach ss) (find s (entries ps)) (each_find (IsInside n) s (entries ps) (in_entries n ps h)) (reach_inside ss n)

pub plain_in_document : (ss : Steps) (n : ℕ) (ps : Pairs) → 0 < length ss → depth (doc ps) ≤ n → IfSome (plain ss (doc ps)) (IsInside n)
plain_in_document [] n ps lt h = absurd (omega arith)
plain_in_document (s ∷ ss) n ps lt h = then_inside n (plain ss) (find s (entries ps)) (each_find (IsInside n) s (entries ps) (in_entries n ps h)) (plain_inside ss n)

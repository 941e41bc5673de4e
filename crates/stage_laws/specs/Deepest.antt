-- Expressions whose values are nested as deep as their bounds allow.
use Rattle.std.specs.Prelude.{◌≡◌, ℕ, suc, false, List, [], ◌∷◌, Some, None}
use Rattle.std.specs.List.{All}
use Rattle.std.specs.Str.{bytes_eq}
use Rattle.bson_value.specs.Depth.{depth}
use Rattle.bson_value.specs.Pairs.{find}
use Rattle.bson_value.specs.Tree.{Tree, doc, pairs_of}
use Rattle.expr_tree.specs.Node.{literal, field, root, make, make_list, Node, node, Nodes, no_nodes, next}
use Rattle.stage_tree.specs.Outcome.{Fields}

-- the field is one of the document's deepest
abbrev pub IsDeepestField : Fields → List ℕ → Type 0
IsDeepestField d name = (t : Tree) × (find name d ≡ Some t) × (suc (depth t) ≡ depth (doc (pairs_of d)))

-- each expression has a name, and no two have the same
abbrev pub AreNamed : List (List ℕ) → Nodes → Type 0
AreNamed [] no_nodes = Unit {0}
AreNamed [] (next e es) = ⊥
AreNamed (n ∷ ns) no_nodes = ⊥
AreNamed (n ∷ ns) (next e es) = All (λ m. bytes_eq n m ≡ false) ns × AreNamed ns es

abbrev mutual
  -- a literal, the document, one of its deepest fields, an array of such, or a document of such
  pub IsDeepest : Fields → Node → Type 0
  IsDeepest d (node (literal t) no_nodes) = Unit {0}
  IsDeepest d (node (root None) no_nodes) = Unit {0}
  IsDeepest d (node (field (name ∷ [])) no_nodes) = IsDeepestField d name
  IsDeepest d (node make_list es) = AreDeepest d es
  IsDeepest d (node (make names) es) = AreNamed names es × AreDeepest d es
  IsDeepest d e = ⊥

  pub AreDeepest : Fields → Nodes → Type 0
  AreDeepest d no_nodes = Unit {0}
  AreDeepest d (next e es) = IsDeepest d e × AreDeepest d es

-- Paths with values, as `$project` and `$addFields` have them: nested documents stand for longer paths.
use Rattle.std.specs.Prelude.{◌≡◌, ℕ, Bool, true, false, not, List, [], ◌∷◌, ◌++◌, map, length, ◌==◌, Option, Some, None, if◌then◌else◌}
use Rattle.bson_value.specs.Path.{IsPathText, pieces}
use Rattle.bson_value.specs.Paths.{Steps}
use Rattle.bson_value.specs.Tree.{Tree, leaf, doc, list, Pairs, no_pairs, pair, pairs_of, entries}
use Rattle.expr_tree.specs.Forms.{has_sign}
use Rattle.expr_read.specs.Reading.{only_if, path_in, ◌>>=◌}
use Rattle.stage_tree.specs.Outcome.{Fields}
use Rattle.stage_parts.specs.Each.{each, Pairwise}
use Rattle.stage_parts.specs.Paths.{are_apart}
use Rattle.stage_parts.specs.Values.{as_fields}

-- a path, and what is said of it
abbrev pub Leaves : Type 0
Leaves = List (Steps × Tree)

-- a document stands for longer paths where it isn't empty and its first name isn't that of an operator
abbrev pub nests : Fields → Bool
nests [] = false
nests (p ∷ ps) = not (has_sign p.0)

-- the texts of the paths, each with its value: in a nested document a dot and a name follow the document's own text
abbrev mutual
  pub flat : List ℕ → Pairs → Fields
  flat front no_pairs = []
  flat front (pair n t ps) = flat_value (front ++ n) t ++ flat front ps

  pub flat_value : List ℕ → Tree → Fields
  flat_value text (leaf l) = (text, leaf l) ∷ []
  flat_value text (doc ps) = if nests (entries ps) then flat (text ++ 46 ∷ []) ps else (text, doc ps) ∷ []
  flat_value text (list ts) = (text, list ts) ∷ []

abbrev pub no_fields : Option Fields → Bool
no_fields (Some ps) = length ps == 0
no_fields None = false

abbrev pub is_empty : Tree → Bool
is_empty t = no_fields (as_fields t)

abbrev pub leaf_reading : List ℕ × Tree → Option (Steps × Tree)
leaf_reading p = only_if (not (is_empty p.1)) (path_in p.0 >>= λ path. Some (path, p.1))

abbrev pub apart_leaves : Leaves → Option Leaves
apart_leaves ls = only_if (are_apart (map (λ l. l.0) ls)) (Some ls)

abbrev pub leaves_reading : Fields → Option Leaves
leaves_reading ps = each leaf_reading (flat [] (pairs_of ps)) >>= apart_leaves

-- the same, as it is written: no value is an empty document, and no path is another or begins it
pub record IsLeaf (field : List ℕ × Tree) (said : Steps × Tree) : Type 0 where
  pub is_path : IsPathText field.0
  pub path : pieces field.0 ≡ said.0
  pub value : field.1 ≡ said.1
  pub some : is_empty field.1 ≡ false

pub record AreLeaves (fields : Fields) (leaves : Leaves) : Type 0 where
  pub each : Pairwise IsLeaf (flat [] (pairs_of fields)) leaves
  pub apart : are_apart (map (λ l. l.0) leaves) ≡ true

-- How stages are written: which values behind a stage's name spell which stage (the manual, Aggregation Stages). One
-- line or a few for each stage.
use Rattle.std.specs.Prelude.{◌≡◌, ◌⊎◌, ℕ, ◌<◌, Bool, true, false, List, [], ◌∷◌, map, length, Option, Some, None, codes}
use Rattle.std.specs.List.{list_all}
use Rattle.bson_value.specs.Pairs.{find}
use Rattle.bson_value.specs.Path.{IsPathText, pieces}
use Rattle.bson_value.specs.Paths.{Steps}
use Rattle.bson_value.specs.Tree.{text, Tree, leaf, doc, list, no_pairs, pair, pairs_of, trees_of}
use Rattle.expr_tree.specs.Node.{Node}
use Rattle.expr_tree.specs.QueryNode.{QueryNode}
use Rattle.expr_tree.specs.Spells.{Spells}
use Rattle.query_read.specs.Written.{SpellsQuery}
use Rattle.stage_tree.specs.Outcome.{Fields}
use Rattle.stage_tree.specs.Stage.{Made, Keys, match, project, add_fields, unset, replace_root, unwind, sort, limit, skip, count, StageNode, stage, no_pipes}
use Rattle.stage_parts.specs.Each.{Pairwise}
use Rattle.stage_parts.specs.Keys.{AreKeys}
use Rattle.stage_parts.specs.Names.{has_only, is_field_name}
use Rattle.stage_parts.specs.Paths.{are_apart}
use Rattle.stage_parts.specs.Values.{as_count, as_flag}
use Rattle.stage_forms.specs.declared.kind.Kind.{Kind}
use Rattle.stage_forms.specs.declared.kind.Kind.TheVariants as K
use Rattle.stage_forms.specs.Kinds.{kind_named}
use Rattle.stage_forms.specs.Leaves.{Leaves, AreLeaves}
use Rattle.stage_forms.specs.Project.{excludes, fits, keeps_id, listed, computed}

abbrev pub IsNamed : List ℕ → Kind → Type 0
IsNamed name kind = kind_named name ≡ Some kind

-- a text that is a path, and one that is a path behind a dollar sign
pub record IsPathValue (t : Tree) (path : Steps) : Type 0 where
  pub words : List ℕ
  pub form : t ≡ leaf (text words)
  pub is_path : IsPathText words
  pub steps : pieces words ≡ path

pub record IsFieldValue (t : Tree) (path : Steps) : Type 0 where
  pub words : List ℕ
  pub form : t ≡ leaf (text (36 ∷ words))
  pub is_path : IsPathText words
  pub steps : pieces words ≡ path

-- `$match`: a query
pub record IsMatch (number : ℕ) (t : Tree) (items : List (QueryNode × ℕ)) : Type 0 where
  pub fields : Fields
  pub query : QueryNode
  pub form : t ≡ doc (pairs_of fields)
  pub spells : SpellsQuery true fields query
  pub item : items ≡ (query, number) ∷ []

-- paths, each set to an expression's value
abbrev pub IsSet : Steps × Tree → Steps × Node → Type 0
IsSet said made = (said.0 ≡ made.0) × Spells [] said.1 made.1

-- `$project`: at least one path, and a mixture only as `_id` allows
pub record IsProject (t : Tree) (id_stays : Bool) (excl : Bool) (paths : List Steps) (made : Made) : Type 0 where
  pub fields : Fields
  pub leaves : Leaves
  pub form : t ≡ doc (pairs_of fields)
  pub are_leaves : AreLeaves fields leaves
  pub some : 0 < length leaves
  pub kind : excludes leaves ≡ excl
  pub even : list_all (fits excl) leaves ≡ true
  pub id : keeps_id excl leaves ≡ id_stays
  pub paths_listed : listed leaves ≡ paths
  pub paths_set : Pairwise IsSet (computed leaves) made

-- `$addFields`
pub record IsAddFields (t : Tree) (made : Made) : Type 0 where
  pub fields : Fields
  pub leaves : Leaves
  pub form : t ≡ doc (pairs_of fields)
  pub are_leaves : AreLeaves fields leaves
  pub paths_set : Pairwise IsSet leaves made

-- `$unset`: a path, or a list of them
abbrev pub AreUnset : Tree → List Steps → Type 0
AreUnset t paths = ((path : Steps) × IsPathValue t path × (paths ≡ path ∷ [])) ⊎ ((ts : List Tree) × (t ≡ list (trees_of ts)) × (0 < length ts) × Pairwise IsPathValue ts paths)

abbrev pub IsUnset : Tree → List Steps → Type 0
IsUnset t paths = AreUnset t paths × (are_apart paths ≡ true)

-- `{newRoot: e}` of `$replaceRoot`
abbrev pub IsNewRoot : Tree → Node → Type 0
IsNewRoot t e = (v : Tree) × (t ≡ doc (pair (codes "newRoot") v no_pairs)) × Spells [] v e

-- the value of a field that may be left out
abbrev pub IsIndex : Option Tree → Option Steps → Type 0
IsIndex None index = index ≡ None
IsIndex (Some t) index = (path : Steps) × IsPathValue t path × (index ≡ Some path)

abbrev pub IsPreserve : Option Tree → Bool → Type 0
IsPreserve None stays = stays ≡ false
IsPreserve (Some t) stays = as_flag t ≡ Some stays

abbrev pub paths_of : Steps → Option Steps → List Steps
paths_of path None = path ∷ []
paths_of path (Some index) = path ∷ index ∷ []

-- `$unwind` with names
pub record IsUnwindDocument (t : Tree) (path : Steps) (index : Option Steps) (stays : Bool) : Type 0 where
  pub fields : Fields
  pub array : Tree
  pub form : t ≡ doc (pairs_of fields)
  pub names : has_only (codes "path" ∷ []) (codes "includeArrayIndex" ∷ codes "preserveNullAndEmptyArrays" ∷ []) fields ≡ true
  pub found : find (codes "path") fields ≡ Some array
  pub is_array : IsFieldValue array path
  pub is_index : IsIndex (find (codes "includeArrayIndex") fields) index
  pub preserve : IsPreserve (find (codes "preserveNullAndEmptyArrays") fields) stays
  pub apart : are_apart (paths_of path index) ≡ true

abbrev pub IsUnwind : Tree → Steps → Option Steps → Bool → Type 0
IsUnwind t path index stays = (IsFieldValue t path × (index ≡ None) × (stays ≡ false)) ⊎ IsUnwindDocument t path index stays

-- a name, which becomes that of the one field
abbrev pub IsCount : Tree → List ℕ → Type 0
IsCount t name = (t ≡ leaf (text name)) × (is_field_name name ≡ true)

abbrev pub IsSort : Tree → Keys → Type 0
IsSort t keys = (ps : Fields) × (t ≡ doc (pairs_of ps)) × AreKeys ps keys

-- the stage that a name and the value behind it spell, in a written stage of that number
abbrev pub SpellsPlainStage : ℕ → List ℕ → Tree → StageNode → Type 0
SpellsPlainStage number name t (stage (match items) no_pipes) = IsNamed name K.Match × IsMatch number t items
SpellsPlainStage number name t (stage (project id_stays excl paths made) no_pipes) = IsNamed name K.Project × IsProject t id_stays excl paths made
SpellsPlainStage number name t (stage (add_fields made) no_pipes) = IsNamed name K.AddFields × IsAddFields t made
SpellsPlainStage number name t (stage (unset paths) no_pipes) = IsNamed name K.Unset × IsUnset t paths
SpellsPlainStage number name t (stage (replace_root e) no_pipes) = (IsNamed name K.ReplaceRoot × IsNewRoot t e) ⊎ (IsNamed name K.ReplaceWith × Spells [] t e)
SpellsPlainStage number name t (stage (unwind path index stays) no_pipes) = IsNamed name K.Unwind × IsUnwind t path index stays
SpellsPlainStage number name t (stage (sort keys None) no_pipes) = IsNamed name K.Sort × IsSort t keys
SpellsPlainStage number name t (stage (limit n) no_pipes) = IsNamed name K.Limit × (as_count t ≡ Some n) × (0 < n)
SpellsPlainStage number name t (stage (skip n) no_pipes) = IsNamed name K.Skip × (as_count t ≡ Some n)
SpellsPlainStage number name t (stage (count field) no_pipes) = IsNamed name K.Count × IsCount t field
-- every other stage has another form
SpellsPlainStage number name t s = ⊥

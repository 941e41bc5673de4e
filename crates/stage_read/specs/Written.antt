-- How stages and commands are written: which values spell which stage, and which documents spell which command (the
-- manual, `aggregate` and Aggregation Stages).
use Rattle.std.specs.Prelude.{◌≡◌, ◌⊎◌, ℕ, ◌+◌, ◌≤◌, Bool, true, false, List, [], ◌∷◌, ◌++◌, length, map, Option, None, codes}
use Rattle.std.specs.List.{list_all}
use Rattle.bson_value.specs.Pairs.{find}
use Rattle.bson_value.specs.Tree.{text, Tree, leaf, doc, list, Pairs, no_pairs, pair, Trees, no_trees, tree, entries}
use Rattle.expr_tree.specs.Spells.{Fields, At}
use Rattle.stage_tree.specs.Stage.{StageHead, facet, union, StageNode, stage, Stages, no_stages, placed, Pipes, no_pipes, pipe}
use Rattle.stage_parts.specs.Names.{is_collection_name, is_field_name}
use Rattle.stage_read.specs.declared.place.Place.{Place}
use Rattle.stage_read.specs.declared.place.Place.TheVariants as P
use Rattle.stage_read.specs.Kinds.{SpellsKind}
use Rattle.pipeline_limits.specs.Limits.{past_limits}
use Rattle.stage_read.specs.Words.{is_ignored, holds_pipelines, is_merge, may_merge, may_facet, in_union}

-- a document of this one field
abbrev pub IsStage : Tree → List ℕ → Tree → Type 0
IsStage t name v = t ≡ doc (pair name v no_pairs)

-- a stage that holds no pipelines, and comes from the n-th written stage; a `$merge` only where one may stand
pub record SpellsSimple (place : Place) (n : ℕ) (t : Tree) (s : StageNode) : Type 0 where
  pub name : List ℕ
  pub value : Tree
  pub form : IsStage t name value
  pub alone : holds_pipelines name ≡ false
  pub merges : is_merge name ≡ true → may_merge place ≡ true
  pub kind : SpellsKind n name value s

-- the value of a `$unionWith` without a pipeline: the collection's name
abbrev pub IsBare : List ℕ → Tree → Stages → Type 0
IsBare name v ss = (v ≡ leaf (text name)) × (ss ≡ no_stages)

-- an array, whose items are so
abbrev pub IsList : (Trees → Type 0) → Tree → Type 0
IsList Are t = (ts : Trees) × (t ≡ list ts) × Are ts

-- `{coll, pipeline}`, the pipeline being so
abbrev pub IsFull : List ℕ → (Tree → Type 0) → Tree → Type 0
IsFull name Is v = (fs : Pairs) × (v ≡ doc fs) × (length (entries fs) ≡ 2) × At (codes "coll") (entries fs) (λ c. c ≡ leaf (text name)) × At (codes "pipeline") (entries fs) Is

-- at this place, from the n-th written stage; the stages within a stage come from the same one
abbrev mutual
  pub SpellsStage : Place → ℕ → Tree → StageNode → Type 0
  SpellsStage place n t (stage (facet names) ps) =
      SpellsSimple place n t (stage (facet names) ps)
      ⊎ ((may_facet place ≡ true) × (1 ≤ length names) × ((fs : Pairs) × IsStage t (codes "$facet") (doc fs) × SpellsFacets n fs names ps))
  SpellsStage place n t (stage (union name) (pipe ss no_pipes)) =
      SpellsSimple place n t (stage (union name) (pipe ss no_pipes))
      ⊎ ((is_collection_name name ≡ true) × ((v : Tree) × IsStage t (codes "$unionWith") v × (IsBare name v ss ⊎ IsFull name (IsList (λ ts. SpellsStages (in_union place) n ts ss)) v)))
  SpellsStage place n t s = SpellsSimple place n t s

  -- names, each with its pipeline
  pub SpellsFacets : ℕ → Pairs → List (List ℕ) → Pipes → Type 0
  SpellsFacets n no_pairs [] no_pipes = Unit {0}
  SpellsFacets n (pair name v fs) (m ∷ ms) (pipe ss ps) = (name ≡ m) × (is_field_name m ≡ true) × IsList (λ ts. SpellsStages P.Facet n ts ss) v × SpellsFacets n fs ms ps
  SpellsFacets n fs ms ps = ⊥

  -- stages within a stage
  pub SpellsStages : Place → ℕ → Trees → Stages → Type 0
  SpellsStages place n no_trees no_stages = Unit {0}
  SpellsStages place n (tree t ts) (placed s os ss) = SpellsStage place n t s × (os ≡ n ∷ []) × SpellsStages place n ts ss
  SpellsStages place n ts ss = ⊥

-- where a stage of the command stands that these follow
abbrev pub place_before : Trees → Place
place_before no_trees = P.Last
place_before (tree t ts) = P.Other

-- the stages of a command, of which the first is the n-th; each comes from itself
abbrev pub SpellsTop : ℕ → Trees → Stages → Type 0
SpellsTop n no_trees no_stages = Unit {0}
SpellsTop n (tree t ts) (placed s os ss) = SpellsStage (place_before ts) n t s × (os ≡ n ∷ []) × SpellsTop (n + 1) ts ss
SpellsTop n ts ss = ⊥

-- the fields of a command: the collection's name in front, the array of stages once behind it, and what says nothing
pub record IsCommand (fields : Fields) (name : List ℕ) (stages : Trees) : Type 0 where
  pub front : Fields
  pub back : Fields
  pub form : fields ≡ (codes "aggregate", leaf (text name)) ∷ front ++ (codes "pipeline", list stages) ∷ back
  pub collection : is_collection_name name ≡ true
  pub before : list_all (λ p. is_ignored p.0) front ≡ true
  pub behind : list_all (λ p. is_ignored p.0) back ≡ true

-- a command over the collection: each stage is one, and no limit is passed
pub record SpellsCommand (fields : Fields) (name : List ℕ) (ss : Stages) : Type 0 where
  pub stages : Trees
  pub command : IsCommand fields name stages
  pub spelled : SpellsTop 1 stages ss
  pub within : past_limits ss ≡ None

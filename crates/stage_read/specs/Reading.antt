-- Reading a value: the stage that it is, if it is one.
use Rattle.std.specs.Prelude.{ℕ, Bool, true, false, List, [], ◌∷◌, ◌++◌, length, map, nat_le, Option, Some, None, if◌then◌else◌, ◌==◌, ◌&&◌, ◌||◌, not, codes}
use Rattle.std.specs.Option.{option_and_then}
use Rattle.std.specs.Str.{bytes_eq}
use Rattle.bson_value.specs.Pairs.{find}
use Rattle.bson_value.specs.Tree.{Leaf, text, Tree, leaf, doc, list, Pairs, no_pairs, pair, Trees, no_trees, tree, entries}
use Rattle.expr_read.specs.Reading.{only_if, ◌>>=◌}
use Rattle.stage_tree.specs.Stage.{facet, union, StageNode, stage, no_stages, stages_of, no_pipes, pipe, pipes_of}
use Rattle.stage_parts.specs.Names.{is_collection_name, is_field_name}
use Rattle.stage_read.specs.declared.place.Place.{Place}
use Rattle.stage_read.specs.declared.place.Place.TheVariants as P
use Rattle.stage_read.specs.Kinds.{kind_reading}
use Rattle.stage_read.specs.Words.{is_pipeline, is_facet, is_union, is_merge, may_merge, may_facet, in_union}

-- stages, each with the numbers of the written stages that it comes from; pipelines with their names
abbrev pub Placings : Type 0
Placings = List (StageNode × List ℕ)

abbrev pub Facets : Type 0
Facets = List (List ℕ × Placings)

-- a stage that holds no pipelines
abbrev pub simple_reading : Place → ℕ → List ℕ → Tree → Option StageNode
simple_reading place n name v = only_if (not (is_merge name) || may_merge place) (kind_reading n name v)

-- `$facet`
abbrev pub with_facets : Option Facets → Option StageNode
with_facets o = o >>= λ fs. only_if (nat_le 1 (length fs)) (Some (stage (facet (map (λ f. f.0) fs)) (pipes_of fs)))

-- `$unionWith`
abbrev pub collection_in : Tree → Option (List ℕ)
collection_in (leaf (text s)) = only_if (is_collection_name s) (Some s)
collection_in t = None

abbrev pub with_union : Option (List ℕ) → Option Placings → Option StageNode
with_union name o = name >>= λ c. o >>= λ ss. Some (stage (union c) (pipe (stages_of ss) no_pipes))

-- `{coll, pipeline}`, with what the pipeline is
abbrev pub collection_at : Pairs → Option (List ℕ)
collection_at fs = find (codes "coll") (entries fs) >>= collection_in

abbrev pub full_union : Pairs → Option Placings → Option StageNode
full_union fs o = only_if (length (entries fs) == 2) (with_union (collection_at fs) o)

unfoldable mutual
  -- the stage that a value is, at this place, from the n-th written stage
  pub stage_reading : Place → ℕ → Tree → Option StageNode
  stage_reading place n (doc (pair name v no_pairs)) =
      if is_facet name then only_if (may_facet place) (facet_reading n v) else
      if is_union name then union_reading (in_union place) n v else
      simple_reading place n name v
  stage_reading place n t = None

  pub facet_reading : ℕ → Tree → Option StageNode
  facet_reading n (doc fs) = with_facets (facets_from n [] fs)
  facet_reading n t = None

  -- names with pipelines, behind those that there are
  pub facets_from : ℕ → Facets → Pairs → Option Facets
  facets_from n front no_pairs = Some front
  facets_from n front (pair name v fs) = only_if (is_field_name name) (pipeline_reading P.Facet n v >>= λ ss. facets_from n (front ++ (name, ss) ∷ []) fs)

  pub union_reading : Place → ℕ → Tree → Option StageNode
  union_reading place n (doc fs) = full_union fs (pipeline_at place n fs)
  union_reading place n t = with_union (collection_in t) (Some [])

  -- the pipeline at its name
  pub pipeline_at : Place → ℕ → Pairs → Option Placings
  pipeline_at place n no_pairs = None
  pipeline_at place n (pair name v fs) = if is_pipeline name then pipeline_reading place n v else pipeline_at place n fs

  pub pipeline_reading : Place → ℕ → Tree → Option Placings
  pipeline_reading place n (list ts) = stages_from place n [] ts
  pipeline_reading place n t = None

  -- stages, behind those that there are
  pub stages_from : Place → ℕ → Placings → Trees → Option Placings
  stages_from place n front no_trees = Some front
  stages_from place n front (tree t ts) = stage_reading place n t >>= λ s. stages_from place n (front ++ (s, n ∷ []) ∷ []) ts

-- the stage of that name over a value
abbrev pub named_reading : Place → ℕ → List ℕ → Tree → Option StageNode
named_reading place n name v =
    if is_facet name then only_if (may_facet place) (facet_reading n v) else
    if is_union name then union_reading (in_union place) n v else
    simple_reading place n name v

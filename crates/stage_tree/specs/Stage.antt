-- What a stage is: a tree of heads. A head has all of a stage but the pipelines within it.
use Rattle.std.specs.Prelude.{ℕ, suc, ◌+◌, ℤ, Bool, List, [], ◌∷◌, Option}
use Rattle.bson_value.specs.Tree.{Tree}
use Rattle.bson_value.specs.Paths.{Steps}
use Rattle.bson_value.specs.declared.acc_kind.AccKind.{AccKind}
use Rattle.expr_tree.specs.Node.{Node}
use Rattle.expr_tree.specs.QueryNode.{QueryNode}
use Rattle.stage_tree.specs.declared.merge.WhenMatched.{WhenMatched}
use Rattle.stage_tree.specs.declared.merge.WhenUnmatched.{WhenUnmatched}

-- paths, each with the expression that it is set to
abbrev pub Made : Type 0
Made = List (Steps × Node)

-- paths, each with true for falling order
abbrev pub Keys : Type 0
Keys = List (Steps × Bool)

-- an edge of a frame; none is unbounded
pub data WindowHead : Type 0 where
  accumulates : AccKind → Node → Option ℤ → Option ℤ → WindowHead
  rank : WindowHead
  dense_rank : WindowHead
  place : WindowHead
  shift : Node → ℤ → Tree → WindowHead

pub data StageHead : Type 0 where
  keep : List (List ℕ) → StageHead
  match : List (QueryNode × ℕ) → StageHead
  -- whether `_id` stays, whether it excludes, the paths, and what is made
  project : Bool → Bool → List Steps → Made → StageHead
  add_fields : Made → StageHead
  unset : List Steps → StageHead
  replace_root : Node → StageHead
  -- the path, that of the index, and whether documents without an element stay
  unwind : Steps → Option Steps → Bool → StageHead
  -- the key, the accumulators, and whether the groups stay unfinished
  group : Node → List (List ℕ × (AccKind × Node)) → Bool → StageHead
  sort : Keys → Option ℕ → StageHead
  limit : ℕ → StageHead
  skip : ℕ → StageHead
  count : List ℕ → StageHead
  -- the other collection, the local and the other path, the path that is set, and an unwind
  lookup : List ℕ → Steps → Steps → Steps → Option (Steps × (Option Steps × Bool)) → StageHead
  -- the other collection, the start, the paths from and to, the path that is set, the greatest level, the path of the level, the restriction
  graph_lookup : List ℕ → Node → Steps → Steps → Steps → Option ℕ → Option Steps → Option QueryNode → StageHead
  facet : List (List ℕ) → StageHead
  union : List ℕ → StageHead
  window : Node → Keys → List (Steps × WindowHead) → StageHead
  merge : List ℕ → WhenMatched → WhenUnmatched → StageHead

mutual
  pub data StageNode : Type 0 where
    stage : StageHead → Pipes → StageNode

  -- stages one after another, each with the numbers of the written stages that it comes from
  pub data Stages : Type 0 where
    no_stages : Stages
    placed : StageNode → List ℕ → Stages → Stages

  pub data Pipes : Type 0 where
    no_pipes : Pipes
    pipe : Stages → Pipes → Pipes

abbrev pub stages_of : List (StageNode × List ℕ) → Stages
stages_of [] = no_stages
stages_of (s ∷ ss) = placed s.0 s.1 (stages_of ss)

abbrev pub pipes_of : List (List ℕ × List (StageNode × List ℕ)) → Pipes
pipes_of [] = no_pipes
pipes_of (f ∷ fs) = pipe (stages_of f.1) (pipes_of fs)

-- how many stages there are
abbrev mutual
  pub stage_size : StageNode → ℕ
  stage_size (stage h ps) = suc (pipes_size ps)

  pub stages_size : Stages → ℕ
  stages_size no_stages = 0
  stages_size (placed s os ss) = suc (stage_size s + stages_size ss)

  pub pipes_size : Pipes → ℕ
  pipes_size no_pipes = 0
  pipes_size (pipe ss ps) = suc (stages_size ss + pipes_size ps)

-- A pipeline that a stage holds is smaller.
use Rattle.std.specs.Prelude.{ℕ, ◌+◌, ◌≤◌, max, List, [], ◌∷◌}
use Rattle.std.proofs.Common.{arith}
use denote.Param.Weighed.{most}
use Rattle.stage_tree.specs.declared.stage.Stage.{Stage}
use Rattle.stage_tree.specs.declared.stage.Stage.TheVariants as S
use Rattle.stage_tree.specs.declared.stage.Facets.TheDeep.{deep-Stage}
use Rattle.stage_tree.specs.Stage.{StageNode, stage_size, stages_size, stages_of, pipes_size, pipes_of}
use Rattle.stage_tree.specs.StageView.{stage_of}

pub stage_deep : (s : Stage) → deep-Stage s ≤ stage_size (stage_of s)
stage_deep (S.Keep ns) = omega arith
stage_deep (S.Match is) = omega arith
stage_deep (S.Project p) = omega arith
stage_deep (S.AddFields ms) = omega arith
stage_deep (S.Unset ps) = omega arith
stage_deep (S.ReplaceRoot e) = omega arith
stage_deep (S.Unwind u) = omega arith
stage_deep (S.Group g) = omega arith
stage_deep (S.Sort s) = omega arith
stage_deep (S.Limit n) = omega arith
stage_deep (S.Skip n) = omega arith
stage_deep (S.Count n) = omega arith
stage_deep (S.Lookup l) = omega arith
stage_deep (S.GraphLookup g) = omega arith
stage_deep (S.Facet fs) = omega arith
stage_deep (S.Union n p) = omega arith
stage_deep (S.Window w) = omega arith
stage_deep (S.Merge m) = omega arith

pub stages_fall : (ss : List (StageNode × List ℕ)) → most (λ s. stage_size s.0 + 1) ss ≤ stages_size (stages_of ss)
stages_fall [] = omega arith
stages_fall (s ∷ ss) = omega (arith, stages_fall ss)

pub facets_fall : (fs : List (List ℕ × List (StageNode × List ℕ))) → most (λ f. max 0 (max (stages_size (stages_of f.1) + 1) 0)) fs ≤ pipes_size (pipes_of fs)
facets_fall [] = omega arith
facets_fall (f ∷ fs) = omega (arith, facets_fall fs)

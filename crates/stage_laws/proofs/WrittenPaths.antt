-- The paths of the expressions of a command that is written have steps.
use Rattle.std.proofs.Common.{ℕ, ◌+◌, List, [], ◌∷◌, sym, subst, inl, inr}
use Rattle.std.specs.Prelude.{None, false}
use Rattle.std.proofs.lemmas.List.Elements.{All-from_recursion}
use Rattle.bson_value.specs.Paths.{Steps}
use Rattle.bson_value.specs.Tree.{Tree, Pairs, no_pairs, pair, Trees, no_trees, tree}
use Rattle.join_forms.specs.Written.{SpellsJoiningStage}
use Rattle.stage_forms.specs.Written.{IsSet, SpellsPlainStage}
use Rattle.stage_parts.specs.Each.{Pairwise}
use Rattle.stage_read.specs.Words.{in_union}
use Rattle.stage_read.specs.Written.{SpellsSimple, SpellsStage, SpellsFacets, SpellsStages, place_before, SpellsTop, SpellsCommand}
use Rattle.stage_read.specs.declared.place.Place.{Place}
use Rattle.stage_read.specs.declared.place.Place.TheVariants as P
use Rattle.stage_tree.specs.Stage.{Made, match, project, add_fields, unset, replace_root, unwind, group, sort, limit, skip, count, lookup, graph_lookup, facet, union, window, merge, StageNode, stage, Stages, no_stages, placed, Pipes, no_pipes, pipe}
use Rattle.stage_laws.specs.Depths.{HasSteps}
use Rattle.stage_laws.specs.Nested.{MadeHasSteps, StageHasSteps, EachIn, EachStage, EachPiped}
use Rattle.stage_laws.proofs.Inside.{Each}
use Rattle.stage_laws.proofs.SpelledPaths.{spelled}

each_made : (said : List (Steps × Tree)) (made : Made) → Pairwise IsSet said made → Each (λ m. HasSteps m.1) made
each_made [] [] h = tt
each_made [] (m ∷ ms) h = absurd h
each_made (s ∷ ss) [] h = absurd h
each_made (s ∷ ss) (m ∷ ms) h = (spelled [] s.1 m.1 h.0.1, each_made ss ms h.1)

made_steps : (said : List (Steps × Tree)) (made : Made) → Pairwise IsSet said made → MadeHasSteps made
made_steps said made h = All-from_recursion (λ m. HasSteps m.1) made (each_made said made h)

joining_steps : (name : List ℕ) (t : Tree) (s : StageNode) → SpellsJoiningStage name t s → EachIn StageHasSteps s
joining_steps name t (stage (lookup from local field target None) no_pipes) k = (tt, tt)
joining_steps name t (stage (group key parts false) no_pipes) k = (tt, tt)
joining_steps name t (stage (merge into matched unmatched) no_pipes) k = (tt, tt)
joining_steps name t (stage (graph_lookup from start connect_from connect_to target most depth restrict) no_pipes) k = (spelled [] k.1.3.0 start k.1.3.2, tt)
joining_steps name t (stage (window partition keys outputs) no_pipes) k = (tt, tt)
joining_steps name t s k = absurd k

plain_steps : (n : ℕ) (name : List ℕ) (t : Tree) (s : StageNode) → SpellsPlainStage n name t s → EachIn StageHasSteps s
plain_steps n name t (stage (match items) no_pipes) k = (tt, tt)
plain_steps n name t (stage (project id_stays excl paths made) no_pipes) k = (made_steps _ made k.1.paths_set, tt)
plain_steps n name t (stage (add_fields made) no_pipes) k = (made_steps k.1.leaves made k.1.paths_set, tt)
plain_steps n name t (stage (unset paths) no_pipes) k = (tt, tt)
plain_steps n name t (stage (replace_root e) no_pipes) (inl k) = (spelled [] k.1.0 e k.1.2, tt)
plain_steps n name t (stage (replace_root e) no_pipes) (inr k) = (spelled [] t e k.1, tt)
plain_steps n name t (stage (unwind path index stays) no_pipes) k = (tt, tt)
plain_steps n name t (stage (sort keys None) no_pipes) k = (tt, tt)
plain_steps n name t (stage (limit m) no_pipes) k = (tt, tt)
plain_steps n name t (stage (skip m) no_pipes) k = (tt, tt)
plain_steps n name t (stage (count field) no_pipes) k = (tt, tt)
plain_steps n name t s k = absurd k

simple_steps : (place : Place) (n : ℕ) (t : Tree) (s : StageNode) → SpellsSimple place n t s → EachIn StageHasSteps s
simple_steps place n t s k = elim k.kind [ inl j ↦ joining_steps k.name k.value s j.1 | inr j ↦ plain_steps n k.name k.value s j.1 ]

mutual
  stage_steps : (place : Place) (n : ℕ) (t : Tree) (s : StageNode) → SpellsStage place n t s → EachIn StageHasSteps s
  stage_steps place n t (stage (facet names) ps) (inl k) = simple_steps place n t (stage (facet names) ps) k
  stage_steps place n t (stage (facet names) ps) (inr k) = (tt, facets_steps n k.2.0 names ps k.2.2)
  stage_steps place n t (stage (union name) (pipe ss no_pipes)) (inl k) = simple_steps place n t (stage (union name) (pipe ss no_pipes)) k
  stage_steps place n t (stage (union name) (pipe ss no_pipes)) (inr k) =
      elim k.1.2 [
        | inl j ↦ (tt, (subst (λ (us : Stages). EachStage StageHasSteps us) (sym j.1) tt, tt))
        | inr j ↦ (tt, (stages_steps (in_union place) n j.4.2.0 ss j.4.2.2, tt))
      ]
  stage_steps place n t s k = simple_steps place n t s k

  facets_steps : (n : ℕ) (fs : Pairs) (names : List (List ℕ)) (ps : Pipes) → SpellsFacets n fs names ps → EachPiped StageHasSteps ps
  facets_steps n no_pairs [] no_pipes k = tt
  facets_steps n (pair name v fs) (m ∷ ms) (pipe ss ps) k = (stages_steps P.Facet n k.2.0 ss k.2.2, facets_steps n fs ms ps k.3)
  facets_steps n fs names ps k = absurd k

  stages_steps : (place : Place) (n : ℕ) (ts : Trees) (ss : Stages) → SpellsStages place n ts ss → EachStage StageHasSteps ss
  stages_steps place n no_trees no_stages k = tt
  stages_steps place n (tree t ts) (placed s os ss) k = (stage_steps place n t s k.0, stages_steps place n ts ss k.2)
  stages_steps place n ts ss k = absurd k

top_steps : (n : ℕ) (ts : Trees) (ss : Stages) → SpellsTop n ts ss → EachStage StageHasSteps ss
top_steps n no_trees no_stages k = tt
top_steps n (tree t ts) (placed s os ss) k = (stage_steps (place_before ts) n t s k.0, top_steps (n + 1) ts ss k.2)
top_steps n ts ss k = absurd k

pub command_steps : (fields : List (List ℕ × Tree)) (name : List ℕ) (ss : Stages) → SpellsCommand fields name ss → EachStage StageHasSteps ss
command_steps fields name ss k = top_steps 1 k.stages ss k.spelled

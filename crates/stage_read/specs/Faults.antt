-- What is wrong with a document that spells no command: the first of its faults.
use Rattle.std.specs.Prelude.{◌≡◌, ◌⊎◌, ℕ, ◌+◌, ◌≤◌, List, Option, Some, None}
use Rattle.bson_value.specs.Tree.{Tree, Trees, no_trees, tree}
use Rattle.expr_tree.specs.Spells.{Fields}
use Rattle.stage_tree.specs.Stage.{StageNode, Stages}
use Rattle.stage_tree.specs.declared.command.BadCommand.{BadCommand}
use Rattle.stage_read.specs.Commands.{form_at}
use Rattle.pipeline_limits.specs.Limits.{past_limits}
use Rattle.stage_read.specs.Written.{IsCommand, SpellsStage, SpellsTop, place_before}

-- the k-th of these stages, of which the first is the n-th, spells none
abbrev pub HasNoStage : ℕ → Trees → ℕ → Type 0
HasNoStage n no_trees k = ⊥
HasNoStage n (tree t ts) k = ((n ≡ k) × ((s : StageNode) → ¬ SpellsStage (place_before ts) n t s)) ⊎ HasNoStage (n + 1) ts k

-- the least of them
abbrev pub IsLeastBad : Trees → ℕ → Type 0
IsLeastBad ts k = HasNoStage 1 ts k × ((m : ℕ) → HasNoStage 1 ts m → k ≤ m)

-- the fields are none of a command; else the least stage that isn't one; else the limit that is passed
abbrev pub IsFirstFault : Fields → BadCommand → Type 0
IsFirstFault fields b =
    ((b ≡ form_at 0) × ((name : List ℕ) (ts : Trees) → ¬ IsCommand fields name ts))
    ⊎ ((name : List ℕ) × (ts : Trees) × IsCommand fields name ts
    × (((k : ℕ) × (b ≡ form_at k) × IsLeastBad ts k) ⊎ ((ss : Stages) × SpellsTop 1 ts ss × (past_limits ss ≡ Some b))))

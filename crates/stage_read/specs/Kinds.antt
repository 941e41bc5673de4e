-- The stages that hold no pipelines, by their names.
use Rattle.std.specs.Prelude.{◌≡◌, ◌⊎◌, ℕ, Bool, true, false, List, Option, if◌then◌else◌, ◌||◌, codes}
use Rattle.std.specs.Str.{bytes_eq}
use Rattle.bson_value.specs.Tree.{Tree}
use Rattle.stage_tree.specs.Stage.{StageNode}
use Rattle.stage_forms.specs.Reading.{plain_stage_reading}
use Rattle.stage_forms.specs.Written.{SpellsPlainStage}
use Rattle.join_forms.specs.Reading.{joining_stage_reading}
use Rattle.join_forms.specs.Written.{SpellsJoiningStage}

-- the stages that look at other documents than the one at hand
abbrev pub is_joining : List ℕ → Bool
is_joining s =
    bytes_eq s (codes "$lookup") || bytes_eq s (codes "$graphLookup") || bytes_eq s (codes "$group")
    || bytes_eq s (codes "$setWindowFields") || bytes_eq s (codes "$merge")

abbrev pub SpellsKind : ℕ → List ℕ → Tree → StageNode → Type 0
SpellsKind n name t s = ((is_joining name ≡ true) × SpellsJoiningStage name t s) ⊎ ((is_joining name ≡ false) × SpellsPlainStage n name t s)

unfoldable pub kind_reading : ℕ → List ℕ → Tree → Option StageNode
kind_reading n name t = if is_joining name then joining_stage_reading name t else plain_stage_reading n name t

-- A stage that holds no pipelines is read as what it spells.
use Rattle.std.proofs.Common.{◌≡◌, ℕ, Bool, true, false, List, inl, inr}
use Rattle.std.specs.Prelude.{Some, ◌⊎◌}
use Rattle.bson_value.specs.Tree.{Tree}
use Rattle.stage_tree.specs.Stage.{StageNode}
use Rattle.stage_forms.specs.Reading.{plain_stage_reading}
use Rattle.join_forms.specs.Reading.{joining_stage_reading}
use Rattle.stage_forms.proofs.Sound.{spelled as plain_spelled}
use Rattle.stage_forms.proofs.Spelled.{only as plain_only}
use Rattle.join_forms.proofs.Stages.{spelled as joining_spelled, only as joining_only}
use Rattle.stage_read.specs.Kinds.{is_joining, SpellsKind, kind_reading}
use Rattle.stage_read.proofs.Bits.{decided}

pub kind_spelled : (n : ℕ) (name : List ℕ) (t : Tree) (s : StageNode) → kind_reading n name t ≡ Some s → SpellsKind n name t s
unfolding kind_reading
kind_spelled n name t s e = elim (decided (is_joining name)) [
  | inl j ↦ inl (j, joining_spelled name t s (rw j at e))
  | inr j ↦ inr (j, plain_spelled n name t s (rw j at e))
]

pub kind_read : (n : ℕ) (name : List ℕ) (t : Tree) (s : StageNode) → SpellsKind n name t s → kind_reading n name t ≡ Some s
unfolding kind_reading
kind_read n name t s (inl h) = rw h.0 (joining_only s name t h.1)
kind_read n name t s (inr h) = rw h.0 (plain_only n name t s h.1)

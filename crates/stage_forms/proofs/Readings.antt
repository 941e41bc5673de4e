-- An answer that is the reading, said as what a name and a value spell.
use Rattle.std.proofs.Common.{◌≡◌, ℕ, List, sym, ◌∙◌}
use Rattle.std.specs.Prelude.{Result, Ok, Err, IfOk, Some, None}
use Rattle.bson_value.specs.Tree.{Tree}
use Rattle.expr_read.specs.declared.errors.FormError.{FormError}
use Rattle.expr_read.specs.declared.errors.FormError.TheVariants.{Form, Memory}
use Rattle.expr_read.specs.Reads.{Reads}
use Rattle.stage_tree.specs.Stage.{StageNode}
use Rattle.stage_tree.specs.StageView.{stage_of}
use Rattle.stage_tree.specs.declared.stage.Stage.{Stage}
use Rattle.stage_forms.specs.Reading.{plain_stage_reading}
use Rattle.stage_forms.specs.Written.{SpellsPlainStage}
use Rattle.stage_forms.proofs.Sound.{spelled}
use Rattle.stage_forms.proofs.Spelled.{only}

pub found : (number : ℕ) (name : List ℕ) (t : Tree) (r : Result Stage FormError) → Reads stage_of r (plain_stage_reading number name t) → IfOk r (λ s. SpellsPlainStage number name t (stage_of s))
found number name t (Ok s) h = spelled number name t (stage_of s) h
found number name t (Err e) h = tt

pub refused : (number : ℕ) (name : List ℕ) (t : Tree) (r : Result Stage FormError) → Reads stage_of r (plain_stage_reading number name t) → r ≡ Err Form → (s : StageNode) → ¬ SpellsPlainStage number name t s
refused number name t (Ok x) h p = absurd cc
refused number name t (Err Memory) h p = absurd cc
refused number name t (Err Form) h p = λ s q. no_some (sym h ∙ only number name t s q)
  where
    no_some : {s : StageNode} → None ≡ Some s → ⊥
    no_some e = absurd cc

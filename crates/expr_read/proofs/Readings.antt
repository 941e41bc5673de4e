-- An answer that is the reading, said as what the value spells.
use Rattle.std.proofs.Common.{◌≡◌, [], sym, ◌∙◌}
use Rattle.std.specs.Prelude.{Result, Ok, Err, IfOk, Some, None}
use Rattle.bson_value.specs.Tree.{Tree}
use Rattle.expr_tree.specs.Node.{Node}
use Rattle.expr_tree.specs.Spells.{Spells}
use Rattle.expr_tree.specs.View.{node_of}
use Rattle.expr_tree.specs.declared.expr.Expr.{Expr}
use Rattle.expr_read.specs.declared.errors.FormError.{FormError}
use Rattle.expr_read.specs.declared.errors.FormError.TheVariants.{Form, Memory}
use Rattle.expr_read.specs.Reading.{reading}
use Rattle.expr_read.specs.Reads.{Reads}
use Rattle.expr_read.proofs.Sound.{spelled}
use Rattle.expr_read.proofs.Spelled.{only}

pub found : (t : Tree) (r : Result Expr FormError) → Reads node_of r (reading t []) → IfOk r (λ e. Spells [] t (node_of e))
found t (Ok e) h = spelled t [] (node_of e) h
found t (Err e) h = tt

pub refused : (t : Tree) (r : Result Expr FormError) → Reads node_of r (reading t []) → r ≡ Err Form → (n : Node) → ¬ Spells [] t n
refused t (Ok e) h p = absurd cc
refused t (Err Memory) h p = absurd cc
refused t (Err Form) h p = λ n s. no_some (sym h ∙ only n [] t s)
  where
    no_some : {n : Node} → None ≡ Some n → ⊥
    no_some e = absurd cc

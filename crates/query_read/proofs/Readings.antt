-- An answer that is the reading, said as what the document spells.
use Rattle.std.proofs.Common.{◌≡◌, Bool, sym, ◌∙◌}
use Rattle.std.specs.Prelude.{Result, Ok, Err, IfOk, Some, None}
use Rattle.expr_read.specs.declared.errors.FormError.{FormError}
use Rattle.expr_read.specs.declared.errors.FormError.TheVariants.{Form, Memory}
use Rattle.expr_read.specs.Reads.{Reads}
use Rattle.expr_tree.specs.QueryNode.{QueryNode}
use Rattle.expr_tree.specs.QueryView.{query_of}
use Rattle.expr_tree.specs.declared.query.Query.{Query}
use Rattle.query_read.specs.Reading.{query_reading}
use Rattle.query_read.specs.Written.{Fields, SpellsQuery}
use Rattle.query_read.proofs.Sound.{spelled}
use Rattle.query_read.proofs.Spelled.{read_so}

pub found : (exprs : Bool) (ps : Fields) (r : Result Query FormError) → Reads query_of r (query_reading exprs ps) → IfOk r (λ q. SpellsQuery exprs ps (query_of q))
found exprs ps (Ok q) h = spelled exprs ps (query_of q) h
found exprs ps (Err e) h = tt

pub refused : (exprs : Bool) (ps : Fields) (r : Result Query FormError) → Reads query_of r (query_reading exprs ps) → r ≡ Err Form → (q : QueryNode) → ¬ SpellsQuery exprs ps q
refused exprs ps (Ok q) h p = absurd cc
refused exprs ps (Err Memory) h p = absurd cc
refused exprs ps (Err Form) h p = λ q s. no_some (sym h ∙ read_so exprs ps q s)
  where
    no_some : {q : QueryNode} → None ≡ Some q → ⊥
    no_some e = absurd cc

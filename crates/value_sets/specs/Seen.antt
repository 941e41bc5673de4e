-- Borrowed fields, seen as a name and a tree.
use Rattle.std.specs.Prelude.{ℕ, List, map, Result, Ok, Err}
use denote.Ref.{Bor}
use Rattle.bson_value.specs.Tree.{Tree}
use Rattle.bson_value.specs.View.{tree_of}
use Rattle.bson_value.specs.declared.value.Value.{Value}
use Rattle.bson_value.specs.declared.eval_code.EvalCode.{EvalCode}

abbrev pub fields_seen : List (Bor (List ℕ) × Tree) → List (List ℕ × Tree)
fields_seen es = map (λ e. (e.0.now, e.1)) es

abbrev pub field_seen : Result (Bor (List ℕ) × Bor Value) EvalCode → Result (List ℕ × Tree) EvalCode
field_seen (Err c) = Err c
field_seen (Ok p) = Ok (p.0.now, tree_of p.1.now)

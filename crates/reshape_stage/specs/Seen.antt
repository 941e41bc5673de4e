-- The work that an operator has, and what its calls answer.
use Rattle.std.specs.Prelude.{ℕ, Bool, List, map, Option, Some, None, Result, Ok, Err, if◌then◌else◌}
use Rattle.std.specs.Option.{option_map}
use Rattle.bson_value.specs.Tree.{Tree}
use Rattle.bson_value.specs.View.{tree_of}
use Rattle.bson_value.specs.Paths.{Steps}
use Rattle.bson_value.specs.declared.errors.EvalError.{EvalError}
use Rattle.bson_value.specs.declared.errors.EvalError.TheVariants.{Code, Memory}
use Rattle.bson_value.specs.declared.value.Value.{Value}
use Rattle.expr_tree.specs.View.{node_of}
use Rattle.expr_tree.specs.QueryView.{query_of}
use Rattle.stage_tree.specs.StageView.{made_in}
use Rattle.stage_tree.specs.Outcome.{lesser}
use Rattle.stage_tree.specs.Rows.{steps_of}
use Rattle.bson_value.specs.declared.eval_code.EvalCode.{EvalCode}
use Rattle.reshape_stage.specs.declared.shape.Shape.{Shape as Form}
use Rattle.reshape_stage.specs.declared.shape.Shape.TheVariants as F
use Rattle.reshape_stage.specs.declared.operator.Kind.{Kind}
use Rattle.reshape_stage.specs.declared.operator.Kind.TheVariants as K
use Rattle.reshape_stage.specs.Work.{Shape, keeps, passes, includes, removes, sets, becomes, unwinds, Work, each, limiting, skipping, counting}
use denote.Ref.{Bor}

abbrev pub shape_of : Form → Shape
shape_of (F.Keep ns) = keeps (steps_of ns)
shape_of (F.Match q) = passes (query_of q)
shape_of (F.Include ps ms) = includes ps (made_in ms)
shape_of (F.IncludeNamed ns ms) = includes (steps_of ns) (made_in ms)
shape_of (F.Remove ps) = removes ps
shape_of (F.Set ms) = sets (made_in ms)
shape_of (F.Become e) = becomes (node_of e)
shape_of (F.Unwind u) = unwinds u.path u.index u.preserve

abbrev pub work_of : Kind → ℕ → Work
work_of (K.Each s) n = each (shape_of s)
work_of K.Limit n = limiting n
work_of K.Skip n = skipping n
work_of (K.Count name) n = counting name n

-- borrowed paths with their values
abbrev pub set_in : List (Bor Steps × Option Value) → List (Steps × Option Tree)
set_in vs = map (λ v. (v.0.now, option_map tree_of v.1)) vs

-- the lesser of a code and of one that was met before
abbrev pub noted : Option EvalCode → EvalCode → EvalCode
noted None c = c
noted (Some b) c = lesser b c

-- a value that is wanted
abbrev pub kept_if : Bool → Tree → Option Tree
kept_if b t = if b then Some t else None

-- what holds where the answer is a code
abbrev pub OnCode : {X : Type 0} → Result X EvalError → Type 0 → Type 0
OnCode (Ok x) P = Unit {0}
OnCode (Err Memory) P = Unit {0}
OnCode (Err (Code c)) P = P

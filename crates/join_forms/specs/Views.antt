-- Parts of stages, as the code has them.
use Rattle.std.specs.Prelude.{ℕ, ℤ, List, Option, map}
use Rattle.std.specs.Option.{option_map}
use Rattle.bson_value.specs.Paths.{Steps}
use Rattle.bson_value.specs.declared.acc_kind.AccKind.{AccKind}
use Rattle.expr_tree.specs.Node.{Node}
use Rattle.expr_tree.specs.View.{node_of}
use Rattle.expr_tree.specs.QueryNode.{QueryNode}
use Rattle.expr_tree.specs.QueryView.{query_of}
use Rattle.expr_tree.specs.declared.expr.Expr.{Expr}
use Rattle.expr_tree.specs.declared.query.Query.{Query}
use Rattle.join_forms.specs.Reading.{Limits}
use Rattle.stage_tree.specs.Stage.{WindowHead}
use Rattle.stage_tree.specs.StageView.{edge_of, window_of}
use Rattle.stage_tree.specs.declared.edge.Edge.{Edge}
use Rattle.stage_tree.specs.declared.window.WindowFn.{WindowFn}

abbrev pub accumulator_of : AccKind × Expr → AccKind × Node
accumulator_of a = (a.0, node_of a.1)

abbrev pub parts_of : List (List ℕ × AccKind × Expr) → List (List ℕ × (AccKind × Node))
parts_of ps = map (λ p. (p.0, (p.1, node_of p.2))) ps

abbrev pub limits_of : Option ℕ × Option Steps × Option Query → Limits
limits_of l = (l.0, l.1, option_map query_of l.2)

abbrev pub frame_of : Edge × Edge → Option ℤ × Option ℤ
frame_of f = (edge_of f.0, edge_of f.1)

abbrev pub outputs_of : List (Steps × WindowFn) → List (Steps × WindowHead)
outputs_of os = map (λ o. (o.0, window_of o.1)) os

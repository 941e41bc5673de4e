-- The tree that a stage is.
use Rattle.std.specs.Prelude.{ℕ, ℤ, Bool, List, map, Option, None, Some}
use Rattle.std.specs.Option.{option_map}
use Rattle.bson_value.specs.View.{tree_of}
use Rattle.bson_value.specs.Paths.{Steps}
use Rattle.expr_tree.specs.View.{node_of}
use Rattle.expr_tree.specs.QueryNode.{QueryNode}
use Rattle.expr_tree.specs.QueryView.{query_of}
use Rattle.expr_tree.specs.declared.expr.Expr.{Expr}
use Rattle.stage_tree.specs.declared.edge.Edge.{Edge}
use Rattle.stage_tree.specs.declared.edge.Edge.TheVariants as D
use Rattle.stage_tree.specs.declared.window.WindowFn.{WindowFn}
use Rattle.stage_tree.specs.declared.window.WindowFn.TheVariants as F
use Rattle.stage_tree.specs.declared.item.Item.{Item}
use Rattle.stage_tree.specs.declared.unwind.Unwind.{Unwind}
use Rattle.stage_tree.specs.declared.stage.Stage.{Stage}
use Rattle.stage_tree.specs.declared.stage.Stage.TheVariants as S
use Rattle.stage_tree.specs.Stage.{Made, WindowHead, accumulates, rank, dense_rank, place, shift, keep, match, project, add_fields, unset, replace_root, unwind, group, sort, limit, skip, count, lookup, graph_lookup, facet, union, window, merge, StageNode, stage, no_pipes, pipe, stages_of, pipes_of}

abbrev pub items_in : List Item → List (QueryNode × ℕ)
items_in is = map (λ i. (query_of i.query, i.origin)) is

abbrev pub made_in : List (Steps × Expr) → Made
made_in ms = map (λ m. (m.0, node_of m.1)) ms

abbrev pub edge_of : Edge → Option ℤ
edge_of D.Unbounded = None
edge_of (D.At n) = Some n

abbrev pub window_of : WindowFn → WindowHead
window_of (F.Acc k e a b) = accumulates k (node_of e) (edge_of a) (edge_of b)
window_of F.Rank = rank
window_of F.DenseRank = dense_rank
window_of F.Number = place
window_of (F.Shift e n v) = shift (node_of e) n (tree_of v)

abbrev pub unwind_of : Unwind → Steps × (Option Steps × Bool)
unwind_of u = (u.path, (u.index, u.preserve))

abbrev pub stage_of : Stage → StageNode
stage_of (S.Keep ns) = stage (keep ns) no_pipes
stage_of (S.Match is) = stage (match (items_in is)) no_pipes
stage_of (S.Project p) = stage (project p.keeps_id p.excludes p.paths (made_in p.made)) no_pipes
stage_of (S.AddFields ms) = stage (add_fields (made_in ms)) no_pipes
stage_of (S.Unset ps) = stage (unset ps) no_pipes
stage_of (S.ReplaceRoot e) = stage (replace_root (node_of e)) no_pipes
stage_of (S.Unwind u) = stage (unwind u.path u.index u.preserve) no_pipes
stage_of (S.Group g) = stage (group (node_of g.key) (map (λ p. (p.0, (p.1, node_of p.2))) g.parts) g.partial) no_pipes
stage_of (S.Sort s) = stage (sort s.keys s.cap) no_pipes
stage_of (S.Limit n) = stage (limit n) no_pipes
stage_of (S.Skip n) = stage (skip n) no_pipes
stage_of (S.Count n) = stage (count n) no_pipes
stage_of (S.Lookup l) = stage (lookup l.foreign l.local l.field l.target (option_map unwind_of l.unwind)) no_pipes
stage_of (S.GraphLookup g) =
    stage (graph_lookup g.foreign (node_of g.start) g.connect_from g.connect_to g.target g.max_depth g.depth (option_map query_of g.restrict)) no_pipes
stage_of (S.Facet fs) = stage (facet (map (λ f. f.0) fs)) (pipes_of fs)
stage_of (S.Union n p) = stage (union n) (pipe (stages_of p) no_pipes)
stage_of (S.Window w) = stage (window (node_of w.partition) w.keys (map (λ o. (o.0, window_of o.1)) w.outputs)) no_pipes
stage_of (S.Merge m) = stage (merge m.target m.matched m.unmatched) no_pipes

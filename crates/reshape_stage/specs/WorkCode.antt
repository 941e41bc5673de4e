-- How a stage's work is told from others, by a proof.
use Rattle.std.specs.Prelude.{◌≡◌, ℕ, Bool, List, Option, ◌⊎◌, refl}
use Rattle.std.proofs.Common.{inl, inr}
use Rattle.std.specs.Coded.{Coded, code_by, coded_ℕ, coded_bool, coded_list, coded_option, coded×, coded⊎}
use Rattle.bson_value.specs.Paths.{Steps}
use Rattle.expr_tree.specs.Node.{Node}
use Rattle.expr_tree.specs.Code.{node_code}
use Rattle.expr_tree.specs.QueryNode.{QueryNode}
use Rattle.expr_tree.specs.QueryCode.{query_code}
use Rattle.stage_tree.specs.Stage.{Made}
use Rattle.reshape_stage.specs.Work.{Shape, keeps, passes, includes, removes, sets, becomes, unwinds, Work, each, limiting, skipping, counting}

abbrev name_code : Coded (List ℕ)
name_code = coded_list coded_ℕ

abbrev path_code : Coded Steps
path_code = coded_list name_code

abbrev paths_code : Coded (List Steps)
paths_code = coded_list path_code

abbrev made_code : Coded Made
made_code = coded_list (coded× path_code node_code)

abbrev ShapeParts : Type 0
ShapeParts = List Steps ⊎ (QueryNode ⊎ ((List Steps × Made) ⊎ (List Steps ⊎ (Made ⊎ (Node ⊎ (Steps × (Option Steps × Bool)))))))

abbrev shape_parts_code : Coded ShapeParts
shape_parts_code =
    coded⊎ paths_code (coded⊎ query_code (coded⊎ (coded× paths_code made_code) (coded⊎ paths_code (coded⊎ made_code (coded⊎ node_code (coded× path_code (coded× (coded_option path_code) coded_bool)))))))

abbrev shape_parts : Shape → ShapeParts
shape_parts (keeps ps) = inl ps
shape_parts (passes q) = inr (inl q)
shape_parts (includes ps ms) = inr (inr (inl (ps, ms)))
shape_parts (removes ps) = inr (inr (inr (inl ps)))
shape_parts (sets ms) = inr (inr (inr (inr (inl ms))))
shape_parts (becomes e) = inr (inr (inr (inr (inr (inl e)))))
shape_parts (unwinds p i b) = inr (inr (inr (inr (inr (inr (p, (i, b)))))))

abbrev shape_from : ShapeParts → Shape
shape_from (inl ps) = keeps ps
shape_from (inr (inl q)) = passes q
shape_from (inr (inr (inl p))) = includes p.0 p.1
shape_from (inr (inr (inr (inl ps)))) = removes ps
shape_from (inr (inr (inr (inr (inl ms))))) = sets ms
shape_from (inr (inr (inr (inr (inr (inl e)))))) = becomes e
shape_from (inr (inr (inr (inr (inr (inr u)))))) = unwinds u.0 u.1.0 u.1.1

pub shape_back : (s : Shape) → shape_from (shape_parts s) ≡ s
shape_back (keeps ps) = refl
shape_back (passes q) = refl
shape_back (includes ps ms) = refl
shape_back (removes ps) = refl
shape_back (sets ms) = refl
shape_back (becomes e) = refl
shape_back (unwinds p i b) = refl

abbrev pub shape_code : Coded Shape
shape_code = code_by ShapeParts shape_parts_code shape_parts shape_from shape_back

abbrev WorkParts : Type 0
WorkParts = Shape ⊎ (ℕ ⊎ (ℕ ⊎ (List ℕ × ℕ)))

abbrev work_parts : Work → WorkParts
work_parts (each s) = inl s
work_parts (limiting n) = inr (inl n)
work_parts (skipping n) = inr (inr (inl n))
work_parts (counting name n) = inr (inr (inr (name, n)))

abbrev work_from : WorkParts → Work
work_from (inl s) = each s
work_from (inr (inl n)) = limiting n
work_from (inr (inr (inl n))) = skipping n
work_from (inr (inr (inr p))) = counting p.0 p.1

pub work_back : (w : Work) → work_from (work_parts w) ≡ w
work_back (each s) = refl
work_back (limiting n) = refl
work_back (skipping n) = refl
work_back (counting name n) = refl

abbrev pub work_code : Coded Work
work_code = code_by WorkParts (coded⊎ shape_code (coded⊎ coded_ℕ (coded⊎ coded_ℕ (coded× name_code coded_ℕ)))) work_parts work_from work_back

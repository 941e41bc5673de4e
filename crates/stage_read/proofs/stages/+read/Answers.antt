use Rattle.std.proofs.Common.{arith, subst, []}
use Rattle.std.specs.Prelude.{Some}
use Rattle.expr_read.specs.Reads.{Reads}
use Rattle.stage_tree.specs.StageView.{stage_of}
use Rattle.stage_read.proofs.FieldSteps.{union_named}
use Rattle.std.proofs.lemmas.Result.{err_from_is_err_and}
use Rattle.bson_value.specs.View.{tree_of}
use Rattle.stage_read.proofs.Sizes.{item_size, field_size}
use Rattle.stage_read.proofs.Rows.{stage_named, stage_none, facet_doc, facet_none, union_doc, union_none, pipeline_found, pipeline_missing, pipeline_list, pipeline_none}
use Rattle.bson_value.specs.Tree.{pairs_of, trees_of}
use Rattle.stage_read.proofs.Steps.{stages_fail, stages_go, facets_bad, facets_fail, facets_go}
use Rattle.stage_read.proofs.stages.+read.Goals as goal

pub read_stages-read_stage-requires : goal.read_stages-read_stage-requires
read_stages-read_stage-requires t c = (omega (arith, c.decreases, item_size c.args.list.now c.loop-i.i (tree_of c.value.result.now) c.value.ensures), tt)

pub read_stages-returns-in_err-stage : goal.read_stages-returns-in_err-stage
read_stages-returns-in_err-stage t c =
    let p = err_from_is_err_and c.from_residual-in_err-stage.result c.from_residual-in_err-stage.ensures.1 in rw (p.1, p.2)
    (stages_fail c.args.place c.args.number c.args.list.now c.loop-i.i (tree_of c.value.result.now) c.value.ensures c.loop-i.pipeline _ c.loop-i.invariant _ c.in_err-stage.ensures)

pub read_stages-loop-i-preserved : goal.read_stages-loop-i-preserved
read_stages-loop-i-preserved t c = rw (c.in_ok-add.ensures.ok, c.new.ensures, c.in_ok-origins.ensures) (stages_go c.args.place c.args.number c.args.list.now c.loop-i.i (tree_of c.value.result.now) c.value.ensures c.loop-i.pipeline _ c.loop-i.invariant _ c.in_ok-stage.ensures)

pub read_facets-returns-in_err-name : goal.read_facets-returns-in_err-name
read_facets-returns-in_err-name t c =
    let p = err_from_is_err_and c.from_residual.result c.from_residual.ensures.1 in rw (p.1, p.2)
    (facets_bad c.args.number c.args.doc.now c.loop-i.i c.name-bytes.result.now (tree_of c.value-value.result.now) c.name-bytes.ensures c.value-value.ensures c.loop-i.facets _ c.loop-i.invariant _ c.in_err-name.ensures)

pub read_facets-read_pipeline-requires : goal.read_facets-read_pipeline-requires
read_facets-read_pipeline-requires t c = (omega (arith, c.decreases, field_size c.args.doc.now c.loop-i.i (tree_of c.value-value.result.now) c.value-value.ensures), tt)

pub read_facets-returns-in_err-pipeline : goal.read_facets-returns-in_err-pipeline
read_facets-returns-in_err-pipeline t c =
    let p = err_from_is_err_and c.from_residual-in_err-pipeline.result c.from_residual-in_err-pipeline.ensures.1 in rw (p.1, p.2)
    (facets_fail c.args.number c.args.doc.now c.loop-i.i c.name-bytes.result.now (tree_of c.value-value.result.now) c.name-bytes.ensures c.value-value.ensures c.loop-i.facets _ c.loop-i.invariant _ c.in_ok-name.ensures _ c.in_err-pipeline.ensures)

pub read_facets-loop-i-preserved : goal.read_facets-loop-i-preserved
read_facets-loop-i-preserved t c =
    rw c.in_ok-add.ensures.ok
    (facets_go c.args.number c.args.doc.now c.loop-i.i c.name-bytes.result.now (tree_of c.value-value.result.now) c.name-bytes.ensures c.value-value.ensures c.loop-i.facets _ c.loop-i.invariant _ c.in_ok-name.ensures _ c.in_ok-pipeline.ensures)

pub read_stage-returns-in-Some : goal.read_stage-returns-in-Some
read_stage-returns-in-Some t c = rw (stage_named c.args.place c.args.number (tree_of c.args.value.now) c.in-Some.field.0.now (tree_of c.in-Some.field.1.now) c.in-Some.ensures.field) c.read_named.ensures

pub read_stage-returns-in-None : goal.read_stage-returns-in-None
read_stage-returns-in-None t c = stage_none c.args.place c.args.number (tree_of c.args.value.now) c.in-None.ensures.field

pub read_facet-returns-in-Some : goal.read_facet-returns-in-Some
read_facet-returns-in-Some t c = rw (facet_doc c.args.number (tree_of c.args.value.now) (pairs_of c.in-Some.doc.now) c.in-Some.ensures.doc) (c.facet_of.ensures _ c.read_facets.ensures)

pub read_facet-returns-in-None : goal.read_facet-returns-in-None
read_facet-returns-in-None t c = facet_none c.args.number (tree_of c.args.value.now) c.in-None.ensures.doc

pub read_union-returns-in-Some : goal.read_union-returns-in-Some
read_union-returns-in-Some t c = rw (union_doc c.args.place c.args.number (tree_of c.args.value.now) (pairs_of c.in-Some.doc.now) c.in-Some.ensures.doc) (c.full_union.ensures _ c.read_pipeline_at.ensures)

pub read_union-returns-in-None : goal.read_union-returns-in-None
read_union-returns-in-None t c = rw (union_none c.args.place c.args.number (tree_of c.args.value.now) c.in-None.ensures.doc) (subst (λ o. Reads stage_of c.bare_union.result o) (union_named _ _ (Some []) c.collection_in.ensures) c.bare_union.ensures)

pub read_pipeline_at-returns-in-Some : goal.read_pipeline_at-returns-in-Some
read_pipeline_at-returns-in-Some t c = rw (pipeline_found c.args.place c.args.number c.args.doc.now (tree_of c.in-Some.value.now) c.in-Some.ensures.found) c.read_pipeline.ensures

pub read_pipeline_at-returns-in-None : goal.read_pipeline_at-returns-in-None
read_pipeline_at-returns-in-None t c = pipeline_missing c.args.place c.args.number c.args.doc.now c.in-None.ensures.found

pub read_pipeline-returns-in-Some : goal.read_pipeline-returns-in-Some
read_pipeline-returns-in-Some t c = rw (pipeline_list c.args.place c.args.number (tree_of c.args.value.now) (trees_of c.in-Some.list.now) c.in-Some.ensures.list) c.read_stages.ensures

pub read_pipeline-returns-in-None : goal.read_pipeline-returns-in-None
read_pipeline-returns-in-None t c = pipeline_none c.args.place c.args.number (tree_of c.args.value.now) c.in-None.ensures.list

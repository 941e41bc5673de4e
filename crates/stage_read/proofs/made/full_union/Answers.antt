use Rattle.std.proofs.Common.{◌∙◌, sym, ap, subst}
use Rattle.bson_value.specs.Tree.{pairs_of}
use Rattle.expr_read.specs.Reads.{Reads}
use Rattle.stage_tree.specs.StageView.{stage_of}
use Rattle.stage_read.proofs.FieldSteps.{union_named, union_counted, union_miscounted}
use Rattle.stage_read.proofs.made.full_union.Goals as goal

pub returns-then-count-eq2 : goal.returns-then-count-eq2
returns-then-count-eq2 c ss h =
    subst (λ o. Reads stage_of c.union_of.result o) (union_named _ _ ss c.collection_at.ensures ∙ sym (union_counted (pairs_of c.args.doc.now) ss c.count.result c.count.ensures c.if-count-eq2.true)) (c.union_of.ensures ss h)

pub returns-else-count-eq2 : goal.returns-else-count-eq2
returns-else-count-eq2 c ss h = union_miscounted (pairs_of c.args.doc.now) ss c.count.result c.count.ensures c.if-count-eq2.false

use Rattle.std.proofs.Common.{arith}
use Rattle.bson_value.specs.Paths.{field_reach}
use Rattle.doc_path.proofs.Steps.{in_document, in_member, in_list, gather-take}
use Rattle.doc_path.proofs.expression_path.+reach.Goals as goal

pub reach_in-returns-in-Doc : goal.reach_in-returns-in-Doc
reach_in-returns-in-Doc t c = rw (c.in-Doc.is, ← in_document c.args.steps.now c.step-item.result _ c.in-len1-up.len_at_least c.step-item.is) c.reach_field.ensures

pub reach_in-returns-in_ok-reach_all-in-List : goal.reach_in-returns-in_ok-reach_all-in-List
reach_in-returns-in_ok-reach_all-in-List t c = rw c.in-List.is (in_list c.args.steps.now c.step-item.result c.in_ok-reach_all-in-List.field-0 c.in-List.list c.in-len1-up.len_at_least c.step-item.is c.in_ok-reach_all-in-List.ensures)

pub reach_member-returns-in-Doc : goal.reach_member-returns-in-Doc
reach_member-returns-in-Doc t c = rw (c.in-Doc.is, ← in_member (field_reach c.args.step.now c.args.rest.now) c.in-Doc.doc) c.reach_field.ensures

pub reach_all-loop-i-preserved : goal.reach_all-loop-i-preserved
reach_all-loop-i-preserved t c =
    rw (c.in_ok-add_found.ensures, c.loop-i.invariant) (gather-take (field_reach c.args.step.now c.args.rest.now) c.args.list.now c.loop-i.i _ _ (omega arith) c.value.ensures c.in_ok-value.ensures)

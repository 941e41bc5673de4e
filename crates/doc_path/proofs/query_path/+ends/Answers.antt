use Rattle.std.proofs.Common.{refl, arith}
use Rattle.std.proofs.lemmas.List.{append_assoc}
use Rattle.bson_value.specs.Paths.{ends}
use Rattle.doc_path.proofs.Queried.{in_document, in_list, in_named, ends-take}
use Rattle.doc_path.proofs.query_path.+ends.Goals as goal

pub ends_in-returns-in-Doc : goal.ends_in-returns-in-Doc
ends_in-returns-in-Doc t c = rw (c.in-Doc.is, ← in_document c.args.steps.now c.step-item.result _ c.in-len1-up.len_at_least c.step-item.is) c.ends_in_field.ensures

pub ends_in-returns-in-List : goal.ends_in-returns-in-List
ends_in-returns-in-List t c = rw (c.in-List.is, ← in_list c.args.steps.now c.step-item.result _ c.in-len1-up.len_at_least c.step-item.is) c.ends_in_elements.ensures

pub ends_in_named-returns-in-Doc : goal.ends_in_named-returns-in-Doc
ends_in_named-returns-in-Doc t c = rw (c.in-Doc.is, ← in_named (ends c.args.rest.now) c.args.step.now c.in-Doc.doc) c.ends_in_field.ensures

pub ends_in_elements-loop-i-preserved : goal.ends_in_elements-loop-i-preserved
ends_in_elements-loop-i-preserved t c =
    rw (c.in_ok-ends_in_placed.ensures, c.in_ok-ends_in_named.ensures, c.loop-i.invariant, append_assoc, append_assoc, ← ends-take (ends c.args.rest.now) c.args.step.now c.args.list.now c.loop-i.i _ (omega arith) c.value-element.ensures) refl

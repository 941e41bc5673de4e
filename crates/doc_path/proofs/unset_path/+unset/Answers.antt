use Rattle.std.proofs.Common.{◌∷◌, arith}
use Rattle.bson_value.specs.Tree.{leaf, null}
use Rattle.bson_value.specs.Paths.{unset, in_own}
use Rattle.doc_path.proofs.Changed.{each_more, unset_there, own_doc, each_list}
use Rattle.doc_path.proofs.unset_path.+unset.Goals as goal

pub unset_field-returns-in-Some : goal.unset_field-returns-in-Some
unset_field-returns-in-Some t c =
    let at = rw c.bytes-in-len1-up.ensures.same at c.in-Some.ensures in
    rw (c.replace-null.ensures.rest, c.replace-value.ensures.rest)
    (unset_there c.args.step.now c.args.rest.now c.next-item.result c.args.doc c.in-Some.i (leaf null) _ _ c.in-len1-up.len_at_least c.next-item.is at c.replace-value.ensures.value c.unset_in.ensures)

pub unset_in-returns-in-Doc : goal.unset_in-returns-in-Doc
unset_in-returns-in-Doc t c = rw (c.in-Doc.is, c.unset_field.ensures) (own_doc (unset (c.args.step.now ∷ c.args.rest.now)) c.in-Doc.doc)

pub unset_in-returns-in-List : goal.unset_in-returns-in-List
unset_in-returns-in-List t c = rw (c.in-List.is, c.unset_each.ensures) (each_list (unset (c.args.step.now ∷ c.args.rest.now)) c.in-List.list)

pub unset_own-returns-in-Doc : goal.unset_own-returns-in-Doc
unset_own-returns-in-Doc t c = rw (c.in-Doc.is, c.unset_field.ensures) (own_doc (unset (c.args.step.now ∷ c.args.rest.now)) c.in-Doc.doc)

pub unset_each-loop-i-preserved : goal.unset_each-loop-i-preserved
unset_each-loop-i-preserved t c =
    rw (c.replace-null.ensures.rest, c.replace-element.ensures.rest)
    (each_more (in_own (unset (c.args.step.now ∷ c.args.rest.now))) c.args.list c.loop-i.list c.loop-i.i (leaf null) _ _ (omega arith) c.loop-i.invariant c.replace-element.ensures.item c.unset_own.ensures)

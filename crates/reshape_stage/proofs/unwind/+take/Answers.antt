use Rattle.std.proofs.Common.{◌∙◌, ◌∷◌, sym, ap}
use Rattle.bson_value.specs.Tree.{leaf, null}
use Rattle.bson_value.specs.View.{tree_of}
use Rattle.reshape_stage.proofs.Elements.{emptied_there, emptied_doc, plain_doc}
use Rattle.reshape_stage.proofs.unwind.+take.Goals as goal

pub take_field-returns-in-len1-up-clause-rest : goal.take_field-returns-in-len1-up-clause-rest
take_field-returns-in-len1-up-clause-rest t c =
    let at = rw c.bytes.ensures.same at c.in-Some.ensures in
    rw (c.replace-null.ensures.rest, c.replace-there.ensures.rest)
    (emptied_there c.args.step.now c.args.rest.now c.next-item.result c.args.doc c.in-Some.i (leaf null) _ _ c.in-len1-up.len_at_least c.next-item.is at c.replace-there.ensures.value c.take_in-left.ensures.rest)

pub take_in-returns-in-Doc-clause-value : goal.take_in-returns-in-Doc-clause-value
take_in-returns-in-Doc-clause-value t c = rw c.in-Doc.is (c.take_field-left.ensures.value ∙ plain_doc c.args.step.now c.args.rest.now c.in-Doc.inner)

pub take_in-returns-in-Doc-clause-rest : goal.take_in-returns-in-Doc-clause-rest
take_in-returns-in-Doc-clause-rest t c = rw (c.in-Doc.is, c.take_field-left.ensures.rest) (emptied_doc c.args.step.now c.args.rest.now c.in-Doc.inner)

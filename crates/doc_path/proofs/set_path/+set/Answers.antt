use Rattle.std.proofs.Common.{◌∷◌, arith}
use Rattle.bson_value.specs.Tree.{leaf, null}
use Rattle.bson_value.specs.View.{tree_of}
use Rattle.bson_value.specs.Paths.{set_at, made_doc}
use Rattle.doc_path.proofs.Changed.{each_more, set_there, own_doc, made_list}
use Rattle.doc_path.proofs.set_path.+set.Goals as goal

pub set_field-returns-in_ok-set_in-in-Some : goal.set_field-returns-in_ok-set_in-in-Some
set_field-returns-in_ok-set_in-in-Some t c =
    let at = rw c.bytes.ensures.same at c.in-Some.ensures in
    rw (c.replace-null.ensures.rest, c.replace-there.ensures.rest)
    (set_there c.args.step.now c.args.rest.now c.next-item.result (tree_of c.args.value.now) c.args.doc c.in-Some.i (leaf null) _ _ c.in-len1-up.len_at_least c.next-item.is at c.replace-there.ensures.value c.in_ok-set_in-in-Some.ensures)

pub set_in-returns-in-Doc : goal.set_in-returns-in-Doc
set_in-returns-in-Doc t c = rw (c.in-Doc.is, c.in_ok-set_field-in-Doc.ensures) (own_doc (set_at (c.args.step.now ∷ c.args.rest.now) (tree_of c.args.value.now)) c.in-Doc.doc)

pub set_in-returns-in-List : goal.set_in-returns-in-List
set_in-returns-in-List t c = rw (c.in-List.is, c.in_ok-set_each-in-List.ensures) (made_list (set_at (c.args.step.now ∷ c.args.rest.now) (tree_of c.args.value.now)) c.in-List.list)

pub set_own-returns-in-Doc : goal.set_own-returns-in-Doc
set_own-returns-in-Doc t c = rw (c.in-Doc.is, c.in_ok-set_field-in-Doc.ensures) (own_doc (set_at (c.args.step.now ∷ c.args.rest.now) (tree_of c.args.value.now)) c.in-Doc.doc)

pub set_each-loop-i-preserved : goal.set_each-loop-i-preserved
set_each-loop-i-preserved t c =
    rw (c.replace-null.ensures.rest, c.replace-element.ensures.rest)
    (each_more (made_doc (set_at (c.args.step.now ∷ c.args.rest.now) (tree_of c.args.value.now))) c.args.list c.loop-i.list c.loop-i.i (leaf null) _ _ (omega arith) c.loop-i.invariant c.replace-element.ensures.item c.in_ok-set_own.ensures)

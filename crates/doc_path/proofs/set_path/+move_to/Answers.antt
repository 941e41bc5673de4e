use Rattle.std.proofs.Common.{◌∷◌}
use Rattle.bson_value.specs.Tree.{leaf, null}
use Rattle.bson_value.specs.View.{tree_of}
use Rattle.bson_value.specs.Paths.{set_at}
use Rattle.doc_path.proofs.Changed.{set_there, own_doc, made_list}
use Rattle.doc_path.proofs.set_path.+move_to.Goals as goal

pub move_to_field-returns-in_ok-move_into-in-Some : goal.move_to_field-returns-in_ok-move_into-in-Some
move_to_field-returns-in_ok-move_into-in-Some t c =
    let at = rw c.bytes.ensures.same at c.in-Some.ensures in
    rw (c.replace-null.ensures.rest, c.replace-there.ensures.rest)
    (set_there c.args.step.now c.args.rest.now c.next-item.result (tree_of c.args.value) c.args.doc c.in-Some.i (leaf null) _ _ c.in-len1-up.len_at_least c.next-item.is at c.replace-there.ensures.value c.in_ok-move_into-in-Some.ensures)

pub move_into-returns-in-Doc : goal.move_into-returns-in-Doc
move_into-returns-in-Doc t c = rw (c.in-Doc.is, c.in_ok-move_to_field-in-Doc.ensures) (own_doc (set_at (c.args.step.now ∷ c.args.rest.now) (tree_of c.args.value)) c.in-Doc.doc)

pub move_into-returns-in-List : goal.move_into-returns-in-List
move_into-returns-in-List t c = rw (c.in-List.is, c.in_ok-set_each-in-List.ensures) (made_list (set_at (c.args.step.now ∷ c.args.rest.now) (tree_of c.args.value)) c.in-List.list)

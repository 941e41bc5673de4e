use Rattle.std.proofs.Common.{◌≡◌, ◌+◌, length, arith, add-one, sym, ◌∙◌}
use Rattle.std.specs.Prelude.{None, Some}
use Rattle.bson_value.specs.View.{tree_of}
use Rattle.bson_codec.specs.Spelling.{tree_bytes}
use Rattle.bson_codec.specs.Writing.{less}
use Rattle.bson_codec.proofs.Elements.{pair_is_at, member_is_at, pair_length, member_length}
use Rattle.bson_codec.proofs.Room.{goes_on, ends}
use Rattle.bson_codec.proofs.length.+measure.Goals as goal

pub take_doc-take_element-requires : goal.take_doc-take_element-requires
take_doc-take_element-requires t c =
    let h = pair_is_at c.args.doc.now c.loop-i.i c.name.result.now (tree_of c.value.result.now) c.name.ensures c.value.ensures in
    (omega (arith, c.decreases, h.smaller), tt)

pub take_doc-loop-i-preserved : goal.take_doc-loop-i-preserved
take_doc-loop-i-preserved t c =
    let h = pair_is_at c.args.doc.now c.loop-i.i c.name.result.now (tree_of c.value.result.now) c.name.ensures c.value.ensures in
    let took : less c.loop-i.left (length c.name.result.now + 2 + length (tree_bytes (tree_of c.value.result.now))) ≡ Some c.in_ok-left-2.left = sym c.take_element.ensures ∙ c.in_ok-left-2.was in
    rw add-one (goes_on c.loop-i.left _ _ _ _ _ took (pair_length c.args.doc.now c.loop-i.i c.name.result.now (tree_of c.value.result.now) h) c.loop-i.invariant)

pub take_doc-returns-in_err-left-2 : goal.take_doc-returns-in_err-left-2
take_doc-returns-in_err-left-2 t c =
    let h = pair_is_at c.args.doc.now c.loop-i.i c.name.result.now (tree_of c.value.result.now) c.name.ensures c.value.ensures in
    let none : less c.loop-i.left (length c.name.result.now + 2 + length (tree_bytes (tree_of c.value.result.now))) ≡ None = sym c.take_element.ensures ∙ c.in_err-left-2.was in
    rw c.from_residual-in_err-left-2.ensures (sym (ends c.loop-i.left _ _ _ _ none (pair_length c.args.doc.now c.loop-i.i c.name.result.now (tree_of c.value.result.now) h) c.loop-i.invariant))

pub take_list-take_element-requires : goal.take_list-take_element-requires
take_list-take_element-requires t c =
    let h = member_is_at 0 c.args.list.now c.loop-i.i (tree_of c.value.result.now) c.value.ensures in
    (omega (arith, c.decreases, h.smaller), tt)

pub take_list-loop-i-preserved : goal.take_list-loop-i-preserved
take_list-loop-i-preserved t c =
    let h = member_is_at 0 c.args.list.now c.loop-i.i (tree_of c.value.result.now) c.value.ensures in
    let name = c.as_bytes.ensures.value ∙ c.format.ensures.text in
    let took : less c.loop-i.left (length c.as_bytes.result.now + 2 + length (tree_bytes (tree_of c.value.result.now))) ≡ Some c.in_ok-left-2.left = sym c.take_element.ensures ∙ c.in_ok-left-2.was in
    rw add-one (goes_on c.loop-i.left _ _ _ _ _ took (member_length c.args.list.now c.loop-i.i c.as_bytes.result.now (tree_of c.value.result.now) name h) c.loop-i.invariant)

pub take_list-returns-in_err-left-2 : goal.take_list-returns-in_err-left-2
take_list-returns-in_err-left-2 t c =
    let h = member_is_at 0 c.args.list.now c.loop-i.i (tree_of c.value.result.now) c.value.ensures in
    let name = c.as_bytes.ensures.value ∙ c.format.ensures.text in
    let none : less c.loop-i.left (length c.as_bytes.result.now + 2 + length (tree_bytes (tree_of c.value.result.now))) ≡ None = sym c.take_element.ensures ∙ c.in_err-left-2.was in
    rw c.from_residual-in_err-left-2.ensures (sym (ends c.loop-i.left _ _ _ _ none (member_length c.args.list.now c.loop-i.i c.as_bytes.result.now (tree_of c.value.result.now) name h) c.loop-i.invariant))

use Rattle.std.proofs.Common.{◌≡◌, ◌∙◌, ◌++◌, List, sym, ap, subst}
use Rattle.std.specs.Prelude.{OnOk}
use Rattle.std.specs.Option.{option_map}
use Rattle.bson_value.specs.Tree.{Tree, trees_of}
use Rattle.bson_value.specs.View.{tree_of}
use Rattle.stage_tree.specs.Outcome.{Fields}
use Rattle.stage_tree.specs.Rows.{unwound}
use Rattle.reshape_stage.specs.Unwound.{emptied}
use Rattle.reshape_stage.proofs.Elements.{elements_are, taken_is}
use Rattle.reshape_stage.proofs.unwind.unwind_elements.Goals as goal

pub returns-in-Some-List : goal.returns-in-Some-List
returns-in-Some-List c =
    let path = c.args.unwind.now.path in
    let index = c.args.unwind.now.index in
    let left = ap (λ (d : Fields). unwound path index d 0 (trees_of c.into_items.result)) c.take_at-rest.ensures.rest in
    let items = ap (λ (ts : List Tree). unwound path index (emptied path c.args.doc) 0 (trees_of ts)) c.into_items.ensures in
    let there = taken_is c.take_at-rest.result.1 c.in-Some-List.field-0 c.in-Some-List.list _ c.in-Some-List.is c.in-Some-List.field-0-is c.take_at-rest.ensures.value in
    subst (λ (l : List Fields). OnOk c.unwind_each.result (c.unwind_each.new.out ≡ c.args.out.now ++ l)) (left ∙ items ∙ elements_are path index c.args.unwind.now.preserve c.args.doc c.in-Some-List.list c.requires there) c.unwind_each.ensures

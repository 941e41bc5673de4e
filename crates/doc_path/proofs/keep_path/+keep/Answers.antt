use Rattle.std.proofs.Common.{◌∙◌, List, ap, sym, arith}
use Rattle.std.proofs.lemmas.Result.{IfOk-weaker}
use Rattle.bson_value.specs.Tree.{pairs_of, trees_of, pairs_size}
use Rattle.bson_value.specs.View.{tree_of}
use Rattle.bson_value.specs.Paths.{Steps}
use Rattle.doc_path.specs.Kept.{steps_in, rests_in, left_of}
use Rattle.doc_path.proofs.Keeping.{begun, begun_apart, new_here, turn_whole, turn_apart, found_rests, steps_or, whole_is, part_is, part_doc, part_list, member_doc}
use Rattle.doc_path.proofs.keep_path.+keep.Goals as goal

pub keep_fields-loop-name-init : goal.keep_fields-loop-name-init
keep_fields-loop-name-init t c = record {
  whole = begun (rests_in c.args.groups.now) c.args.doc _ _ c.new-kept.ensures c.into_fields-fields.ensures;
  apart = begun_apart c.args.doc _ _ c.new-kept.ensures c.into_fields-fields.ensures c.known.ensures;
  smaller = omega (arith, ap (λ f. pairs_size (pairs_of f)) c.into_fields-fields.ensures);
}

pub keep_fields-add_left-requires : goal.keep_fields-add_left-requires
keep_fields-add_left-requires t c = new_here c.loop-name.kept c.loop-name.fields c.in-Some.name _ c.next.new.self c.in-Some.ensures c.loop-name.invariant.apart

pub keep_fields-loop-name-preserved : goal.keep_fields-loop-name-preserved
keep_fields-loop-name-preserved t c =
    let go = rests_in c.args.groups.now in
    let value = tree_of c.in-Some.value in
    let found = found_rests c.get.result ∙ ap steps_or c.get.ensures.value ∙ ap go c.bytes.ensures.same in
    record {
      whole = turn_whole go _ c.loop-name.kept c.loop-name.fields c.in-Some.name value _ c.next.new.self _ c.loop-name.invariant.whole c.in-Some.ensures (c.in_ok-left.ensures ∙ ap (λ (r : List Steps). left_of r value) found) c.in_ok-add_left.ensures;
      apart = turn_apart c.loop-name.kept c.loop-name.fields c.in-Some.name value _ c.next.new.self _ c.loop-name.invariant.apart c.in-Some.ensures c.in_ok-add_left.ensures;
      smaller = omega (arith, ap (λ f. pairs_size (pairs_of f)) c.in-Some.ensures);
    }

pub keep_left-returns-then-ends_here : goal.keep_left-returns-then-ends_here
keep_left-returns-then-ends_here t c = whole_is c.args.rests.now (tree_of c.args.value) (sym c.is_empty.ensures ∙ c.if-is_empty.false) (sym c.ends_here.ensures ∙ c.if-ends_here.true)

pub keep_left-returns-else-ends_here : goal.keep_left-returns-else-ends_here
keep_left-returns-else-ends_here t c =
    IfOk-weaker c.keep_part.result _ _ (λ o h. h ∙ part_is c.args.rests.now (tree_of c.args.value) (sym c.is_empty.ensures ∙ c.if-is_empty.false) (sym c.ends_here.ensures ∙ c.if-ends_here.false)) c.keep_part.ensures

pub keep_member-returns-in-Doc : goal.keep_member-returns-in-Doc
keep_member-returns-in-Doc t c = rw (c.in-Doc.is, c.in_ok-keep_fields-in-Doc.ensures) (member_doc (rests_in c.args.groups.now) (pairs_of c.in-Doc.doc))

pub keep_part-returns-in-Doc : goal.keep_part-returns-in-Doc
keep_part-returns-in-Doc t c = rw (c.in-Doc.is, c.in_ok-keep_fields-in-Doc.ensures) (part_doc (rests_in c.in_ok-groups-in-Doc.groups) (steps_in c.args.rests.now) (pairs_of c.in-Doc.doc) c.in_ok-groups-in-Doc.ensures)

pub keep_part-returns-in-List : goal.keep_part-returns-in-List
keep_part-returns-in-List t c = rw (c.in-List.is, c.in_ok-keep_docs-in-List.ensures) (part_list (rests_in c.in_ok-groups-in-List.groups) (steps_in c.args.rests.now) (trees_of c.in-List.list) c.in_ok-groups-in-List.ensures)

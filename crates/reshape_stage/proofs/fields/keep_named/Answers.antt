use Rattle.std.proofs.Common.{◌∙◌, ◌++◌, sym, ap, append-nil}
use Rattle.bson_value.specs.View.{tree_of}
use Rattle.doc_path.proofs.Keeping.{begun_apart, new_here, turn_apart}
use Rattle.reshape_stage.specs.Seen.{kept_if}
use Rattle.reshape_stage.proofs.Named.{named, is_named, begun_named, turn_named, keep_is_named}
use Rattle.reshape_stage.proofs.fields.keep_named.Goals as goal

pub loop-name-init : goal.loop-name-init
loop-name-init c = record {
  whole = begun_named c.args.names.now c.args.doc _ _ c.new-kept.ensures c.into_fields-fields.ensures;
  apart = begun_apart c.args.doc _ _ c.new-kept.ensures c.into_fields-fields.ensures c.known.ensures;
}

pub add_if-requires : goal.add_if-requires
add_if-requires c = new_here c.loop-name.kept c.loop-name.fields c.in-Some.name (tree_of c.in-Some.value) c.next.new.self c.in-Some.ensures c.loop-name.invariant.apart

pub loop-name-preserved : goal.loop-name-preserved
loop-name-preserved c =
    let value = tree_of c.in-Some.value in
    record {
      whole = turn_named c.args.names.now (named c.args.names.now c.args.doc) c.loop-name.kept c.loop-name.fields c.in-Some.name value c.is_named-wanted.result c.next.new.self c.add_if.new.kept
          c.loop-name.invariant.whole c.in-Some.ensures (c.is_named-wanted.ensures ∙ ap (is_named c.args.names.now) c.bytes.ensures.same) c.in_ok-add_if.ensures;
      apart = turn_apart c.loop-name.kept c.loop-name.fields c.in-Some.name value (kept_if c.is_named-wanted.result value) c.next.new.self c.add_if.new.kept
          c.loop-name.invariant.apart c.in-Some.ensures c.in_ok-add_if.ensures;
    }

pub returns : goal.returns
returns c =
    sym (c.loop-name.invariant.whole ∙ ap (λ l. c.loop-name.kept ++ named c.args.names.now l) c.in_default.ensures.0 ∙ append-nil c.loop-name.kept) ∙ sym (keep_is_named c.args.names.now c.args.doc)

use Rattle.std.proofs.Common.{◌∙◌}
use Rattle.bson_value.specs.View.{tree_of}
use Rattle.doc_path.proofs.Keeping.{new_here}
use Rattle.reshape_stage.proofs.Named.{front_whole, front_apart}
use Rattle.reshape_stage.proofs.fields.put_first.Goals as goal

pub loop-name-init : goal.loop-name-init
loop-name-init c = record {
  whole = front_whole _ (tree_of c.args.id) c.args.rest _ _ _ _ c.in-Ok.ensures.1 c.new-doc.ensures c.in_ok-append.ensures.ok c.into_fields-fields.ensures;
  apart = front_apart _ (tree_of c.args.id) c.args.rest _ _ _ _ c.in-Ok.ensures.1 c.new-doc.ensures c.in_ok-append.ensures.ok c.into_fields-fields.ensures c.requires c.known.ensures;
}

pub append-requires-in-Some : goal.append-requires-in-Some
append-requires-in-Some c = new_here c.loop-name.doc c.loop-name.fields c.in-Some.name (tree_of c.in-Some.value) c.next.new.self c.in-Some.ensures c.loop-name.invariant.apart

use Rattle.bson_value.specs.View.{tree_of}
use Rattle.value_sets.proofs.FieldsPut.{put_seen}
use Rattle.value_sets.proofs.objects.put_field.Goals as goal

pub returns : goal.returns
returns c = rw (c.in_ok-insert.ensures.entries, c.new.ensures) (put_seen c.args.fields.now.entries c.args.name (tree_of c.args.value.now))

use Rattle.std.proofs.Common.{ap, sym, ◌∙◌}
use Rattle.indexmap.specs.IndexSet.{insert_all}
use Rattle.bson_value.specs.SetRows.{same}
use Rattle.value_sets.proofs.AtPlace.{tree_next}
use Rattle.value_sets.proofs.sets.add_members.Goals as goal

pub loop-i-preserved : goal.loop-i-preserved
loop-i-preserved c =
    rw (c.in_ok-insert.ensures.keys, c.new.ensures) (sym (ap (insert_all same c.loop-i.set.keys) (tree_next c.args.array.now c.loop-i.i _ c.value.ensures)) ∙ c.loop-i.invariant)

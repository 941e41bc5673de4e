use Rattle.std.proofs.Common.{ap, ◌∙◌, ◌++◌, ◌+◌, List, arith, append_assoc, drop}
use Rattle.std.specs.Prelude.{not}
use Rattle.std.specs.List.{filter}
use Rattle.bson_value.specs.Tree.{Tree}
use Rattle.bson_value.specs.SetRows.{has}
use Rattle.value_sets.proofs.FirstPlaces.{other_next}
use Rattle.value_sets.proofs.sets.difference.Goals as goal

pub loop-member-preserved : goal.loop-member-preserved
loop-member-preserved c =
    let members : List Tree = c.as_slice-member-items.result.now in
    rw c.in_ok-keep_other.ensures (append_assoc c.loop-member.kept _ (filter (λ t. not (has c.args.other.now t)) (drop (c.loop-member.member-index + 1) members))
    ∙ ap (λ (more : List Tree). c.loop-member.kept ++ more) (other_next c.args.other.now c.in_ok-set.set.keys members c.loop-member.member-index c.member-item.result c.in_ok-set.ensures (omega arith) c.member-item.is)
    ∙ c.loop-member.invariant)

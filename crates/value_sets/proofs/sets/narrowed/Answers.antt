use Rattle.std.proofs.Common.{ap, ◌∙◌, ◌++◌, ◌+◌, List, arith, append_assoc, drop}
use Rattle.std.specs.List.{filter}
use Rattle.bson_value.specs.Tree.{Tree}
use Rattle.bson_value.specs.SetRows.{has}
use Rattle.value_sets.proofs.FirstPlaces.{shared_next}
use Rattle.value_sets.proofs.sets.narrowed.Goals as goal

pub loop-member-preserved : goal.loop-member-preserved
loop-member-preserved c =
    let kept : List Tree = c.loop-member.kept.items in
    rw c.in_ok-keep_shared.ensures (append_assoc kept _ (filter (has c.args.array.now) (drop (c.loop-member.member-index + 1) c.args.members.now))
    ∙ ap (λ (more : List Tree). kept ++ more) (shared_next c.args.array.now c.in_ok-set.set.keys c.args.members.now c.loop-member.member-index c.member-item.result c.in_ok-set.ensures (omega arith) c.member-item.is)
    ∙ c.loop-member.invariant)

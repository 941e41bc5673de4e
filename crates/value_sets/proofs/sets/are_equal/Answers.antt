use Rattle.std.proofs.Common.{◌≡◌, true, false, sym, ◌∙◌, arith}
use Rattle.std.specs.Prelude.{◌&&◌}
use Rattle.bson_value.specs.SetRows.{is_subset}
use Rattle.value_sets.proofs.AtPlace.{next_item}
use Rattle.value_sets.proofs.FirstPlaces.{both_seen}
use Rattle.value_sets.proofs.sets.are_equal.Goals as goal

pub returns-then-not-branch : goal.returns-then-not-branch
returns-then-not-branch c =
    let next = next_item c.args.others.now c.loop-other.other-index c.other-item.result (omega arith) c.other-item.is in
    let both = c.in_ok-has_members_of.ensures ∙ both_seen c.args.first.now c.other-item.result.now c.in_ok-set.set.keys c.in_ok-set.ensures in
    let step = rw next at c.loop-other.invariant in
    let here : (is_subset c.args.first.now c.other-item.result.now && is_subset c.other-item.result.now c.args.first.now) ≡ false = sym both ∙ c.if-not-branch.true in
    rw here at step

pub loop-other-preserved : goal.loop-other-preserved
loop-other-preserved c =
    let next = next_item c.args.others.now c.loop-other.other-index c.other-item.result (omega arith) c.other-item.is in
    let both = c.in_ok-has_members_of.ensures ∙ both_seen c.args.first.now c.other-item.result.now c.in_ok-set.set.keys c.in_ok-set.ensures in
    let step = rw next at c.loop-other.invariant in
    let here : (is_subset c.args.first.now c.other-item.result.now && is_subset c.other-item.result.now c.args.first.now) ≡ true = sym both ∙ c.if-not-branch.false in
    rw here at step

use Rattle.std.proofs.Common.{◌≡◌, ◌+◌, map, drop, sym, ◌∙◌, arith}
use Rattle.std.specs.List.{filter}
use Rattle.bson_value.specs.SetRows.{in_all, firsts}
use Rattle.value_sets.proofs.AtPlace.{next_item, none_left}
use Rattle.value_sets.proofs.FirstPlaces.{in_all_more, in_all_none}
use Rattle.value_sets.proofs.sets.shared.Goals as goal

pub loop-other-preserved : goal.loop-other-preserved
loop-other-preserved c =
    let next = next_item c.args.others.now c.loop-other.other-index c.other-item.result (omega arith) c.other-item.is in
    rw (c.in_ok-kept-2.ensures, c.as_slice-in-loop-other.ensures.value) (sym (in_all_more c.loop-other.kept.items c.other-item.result.now (map (λ a. a.now) (drop (c.loop-other.other-index + 1) c.args.others.now)))
    ∙ (rw next at c.loop-other.invariant))

pub returns : goal.returns
returns c =
    let none = none_left c.args.others.now c.loop-other.other-index (omega arith) in
    let kept : c.loop-other.kept.items ≡ filter (in_all (map (λ a. a.now) c.args.others.now)) (firsts c.args.first.now) = sym (in_all_none c.loop-other.kept.items) ∙ (rw none at c.loop-other.invariant) in
    rw (c.as_slice-2.ensures.value ∙ kept) at c.array_of.ensures

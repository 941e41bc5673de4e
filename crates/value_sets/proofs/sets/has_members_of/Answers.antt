use Rattle.std.proofs.Common.{◌≡◌, true, false, refl, ◌∙◌, sym, ap}
use Rattle.std.specs.List.{list_all}
use Rattle.indexmap.specs.IndexSet.{contains}
use Rattle.bson_value.specs.SetRows.{same, has}
use Rattle.value_sets.proofs.FirstPlaces.{seen_keys}
use Rattle.value_sets.proofs.sets.has_members_of.Goals as goal

pub returns : goal.returns
returns c =
    let first : list_all (has c.args.array.now) c.args.set.now.keys ≡ true = sym (c.are_in.ensures ∙ ap (list_all (contains same c.in_ok-other.other)) c.as_slice.ensures.keys ∙ seen_keys c.args.array.now c.args.set.now.keys c.in_ok-other.other.keys c.in_ok-other.ensures) ∙ (cc) in
    rw first (c.are_in-2.ensures ∙ ap (list_all (contains same c.args.set.now)) (c.as_slice-2.ensures.keys ∙ c.in_ok-other.ensures))

pub returns-then-not-are_in : goal.returns-then-not-are_in
returns-then-not-are_in c =
    let first : list_all (has c.args.array.now) c.args.set.now.keys ≡ false = sym (c.are_in.ensures ∙ ap (list_all (contains same c.in_ok-other.other)) c.as_slice.ensures.keys ∙ seen_keys c.args.array.now c.args.set.now.keys c.in_ok-other.other.keys c.in_ok-other.ensures) ∙ (cc) in
    rw first refl

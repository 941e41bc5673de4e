use Rattle.std.proofs.Math.Nat.{zero-add}
use Rattle.bson_value.specs.Tree.{leaf, int}
use Rattle.bson_value.specs.ArrayRows.{numbers_from}
use Rattle.std.proofs.Common.{◌≡◌, ℤ, pos, ◌+ℤ◌, ◌*ℤ◌, [], ◌∷◌, ◌++◌, FitsSigned, w32, to_z, of_z, ap, sym, ◌∙◌}
use Rattle.std.proofs.lemmas.Int.{to_z-of_z}
use Rattle.std.proofs.lemmas.List.FromFn.{map-range_with_len_more}
use Rattle.value_ops.proofs.Inside.{stays_inside}
use Rattle.value_ops.proofs.ranges.numbers.Goals as goal

pub number_at-requires-clause-fits : goal.number_at-requires-clause-fits
number_at-requires-clause-fits c =
    let start : to_z w32 (of_z w32 c.args.start) ≡ c.args.start = to_z-of_z w32 c.args.start c.ranges.start in
    let step : to_z w32 (of_z w32 c.args.step) ≡ c.args.step = to_z-of_z w32 c.args.step c.ranges.step in
    rw (start, step) (stays_inside c.args.start c.args.end c.args.step c.loop-steps.steps c.ranges.start c.ranges.end c.requires.step (rw c.requires.count at c.loop-steps-test.true))

pub loop-steps-preserved : goal.loop-steps-preserved
loop-steps-preserved c =
    let start : ℤ = to_z w32 (of_z w32 c.args.start) in
    let step : ℤ = to_z w32 (of_z w32 c.args.step) in
    let k = c.loop-steps.steps in
    let fits : FitsSigned w32 c.number_at.result = record { sfits = c.number_at.type_inv } in
    let same = to_z-of_z w32 c.number_at.result fits ∙ c.number_at.ensures in
    c.in_ok-add.ensures.ok
    ∙ ap (λ ts. ts ++ leaf (int (to_z w32 (of_z w32 c.number_at.result))) ∷ []) c.loop-steps.invariant
    ∙ ap (λ n. numbers_from start step k ++ leaf (int n) ∷ []) same
    ∙ sym (map-range_with_len_more (λ j. leaf (int (start +ℤ pos j *ℤ step))) 0 k k (zero-add k))

use Rattle.std.proofs.Common.{pos, FitsSigned, w64, rules, subst, ◌∙◌}
use Rattle.std.specs.Prelude.{◌≢◌}
use Rattle.std.specs.Int.{w128}
use Rattle.std.proofs.lemmas.Int.{to_z-of_z}
use Rattle.std.specs.Option.{option_map}
use Rattle.bson_value.specs.Gives.{Gives}
use Rattle.bson_value.specs.View.{tree_of}
use Rattle.bson_value.specs.Operands.{whole_of}
use Rattle.value_ops.proofs.Sizes.{not_zero}
use Rattle.value_ops.proofs.numbers.remainder.Goals as goal

pub returns : goal.returns
returns c =
    let divides : c.args.divisor ≢ pos 0 = search rules in
    let fits : FitsSigned w128 c.rest_of.result = record { sfits = c.rest_of.type_inv } in
    let fits_number : FitsSigned w64 c.args.number = c.ranges.number in
    let fits_divisor : FitsSigned w64 c.args.divisor = c.ranges.divisor in
    let same = to_z-of_z w128 c.rest_of.result fits ∙ simp to_z-of_z at c.rest_of.ensures in
    rw (not_zero c.args.divisor divides) (subst (λ z. Gives (option_map tree_of) c.whole.result (whole_of c.args.narrow z)) same c.whole.ensures)

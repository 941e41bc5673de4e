-- Rows that take two or three operands.
use Rattle.std.proofs.Common.{◌≡◌, ◌<◌, ◌≤◌, List, [], ◌∷◌, length, refl, arith}
use Rattle.std.specs.Prelude.{Option}
use Rattle.bson_value.specs.declared.value.Value.{Value}
use Rattle.bson_value.specs.View.{founds}
use Rattle.bson_value.specs.Operands.{wrong_count}
use Rattle.bson_value.specs.ArrayRows.{slice_row, range_row}

pub range_few : (vs : List (Option Value)) → length vs < 2 → range_row (founds vs) ≡ wrong_count
range_few [] h = refl
range_few (a ∷ []) h = refl
range_few (a ∷ b ∷ vs) h = absurd (omega arith)

pub range_many : (vs : List (Option Value)) → 4 ≤ length vs → range_row (founds vs) ≡ wrong_count
range_many [] h = absurd (omega arith)
range_many (a ∷ []) h = absurd (omega arith)
range_many (a ∷ b ∷ []) h = absurd (omega arith)
range_many (a ∷ b ∷ c ∷ []) h = absurd (omega arith)
range_many (a ∷ b ∷ c ∷ d ∷ vs) h = refl

pub slice_few : (vs : List (Option Value)) → length vs < 2 → slice_row (founds vs) ≡ wrong_count
slice_few [] h = refl
slice_few (a ∷ []) h = refl
slice_few (a ∷ b ∷ vs) h = absurd (omega arith)

pub slice_many : (vs : List (Option Value)) → 4 ≤ length vs → slice_row (founds vs) ≡ wrong_count
slice_many [] h = absurd (omega arith)
slice_many (a ∷ []) h = absurd (omega arith)
slice_many (a ∷ b ∷ []) h = absurd (omega arith)
slice_many (a ∷ b ∷ c ∷ []) h = absurd (omega arith)
slice_many (a ∷ b ∷ c ∷ d ∷ vs) h = refl

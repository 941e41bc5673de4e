-- The check of results: none is too long or nested too deep to be a BSON document that is read.
use Rattle.std.specs.Prelude.{ℕ, ◌+◌, List, length, Ok, nat_lt, if◌then◌else◌}
use Rattle.std.specs.List.{list_any}
use Rattle.bson_value.specs.Tree.{doc, pairs_of}
use Rattle.bson_value.specs.Depth.{depth}
use Rattle.bson_value.specs.declared.eval_code.EvalCode.TheVariants.{ResultTooLong, ResultTooDeep}
use Rattle.bson_codec.specs.Spelling.{spelling}
use Rattle.stage_tree.specs.Outcome.{Fields, Given, Ran, at_stage}
use Rattle.std.specs.Prelude.{Bool, Err}

abbrev pub is_too_long : Fields → Bool
is_too_long d = nat_lt 16777216 (length (spelling d))

abbrev pub is_too_deep : Fields → Bool
is_too_deep d = nat_lt 100 (depth (doc (pairs_of d)))

-- the results, or the lesser code that one of them has
abbrev pub checked : List Fields → Given
checked ds = if list_any is_too_long ds then Err ResultTooLong else if list_any is_too_deep ds then Err ResultTooDeep else Ok ds

-- the results behind n stages; the check is one stage more
abbrev pub output : ℕ → List Fields → Ran
output n ds = at_stage (n + 1) (checked ds)

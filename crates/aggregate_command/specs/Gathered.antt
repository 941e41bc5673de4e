-- The results of the stages as they are gathered: their spellings, and whether one of them can't be written.
use Rattle.std.specs.Prelude.{ℕ, ◌+◌, Bool, false, ◌||◌, List, [], ◌∷◌, ◌++◌, Result, Ok, Err, if◌then◌else◌}
use Rattle.bson_value.specs.declared.errors.Failure.{Failure}
use Rattle.bson_value.specs.declared.eval_code.EvalCode.TheVariants.{ResultTooLong, ResultTooDeep}
use Rattle.bson_codec.specs.Spelling.{spelling}
use Rattle.bson_codec.specs.Records.{Document}
use Rattle.stage_tree.specs.Output.{is_too_long, is_too_deep}
use Rattle.aggregate_command.specs.declared.results.Results.{Results}

-- no result yet
abbrev pub no_results : Results
no_results = record { too_long = false; too_deep = false; bytes = [] }

-- the spellings with one more, unless a result can't be written
abbrev pub spelled_with : Bool → List ℕ → Document → List ℕ
spelled_with refused bytes d = if refused then bytes else bytes ++ spelling d

-- one more result
abbrev pub with_result : Results → Document → Results
with_result r d = record {
  too_long = r.too_long || is_too_long d;
  too_deep = r.too_deep || is_too_deep d;
  bytes = spelled_with ((r.too_long || is_too_long d) || (r.too_deep || is_too_deep d)) r.bytes d;
}

-- more results, one after another
abbrev pub with_results : Results → List Document → Results
with_results r [] = r
with_results r (d ∷ ds) = with_results (with_result r d) ds

-- what was gathered behind n stages: the spellings, or the failure of the check
abbrev pub gathered : ℕ → Results → Result (List ℕ) Failure
gathered n r =
    if r.too_long then Err (record { stage = n + 1; code = ResultTooLong })
    else if r.too_deep then Err (record { stage = n + 1; code = ResultTooDeep })
    else Ok r.bytes

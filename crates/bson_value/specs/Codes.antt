-- The numbers of the codes of evaluation errors.
use Rattle.std.specs.Prelude.{ℕ}
use Rattle.bson_value.specs.declared.eval_code.EvalCode.{EvalCode}
use Rattle.bson_value.specs.declared.eval_code.EvalCode.TheVariants as C

abbrev pub code_number : EvalCode → ℕ
code_number C.WrongType = 1
code_number C.Overflow = 2
code_number C.ZeroDivisor = 3
code_number C.NotArray = 4
code_number C.BadCount = 5
code_number C.NoBranch = 6
code_number C.DateRange = 7
code_number C.NotDocument = 8
code_number C.BadName = 9
code_number C.BadConversion = 10
code_number C.RangeTooLong = 11
code_number C.NestTooDeep = 12
code_number C.ResultTooLong = 13
code_number C.ResultTooDeep = 14
code_number C.MissingId = 15
code_number C.Matched = 16
code_number C.NotMatched = 17

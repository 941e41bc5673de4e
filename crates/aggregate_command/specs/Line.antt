-- The line that goes to the notes.
use Rattle.std.specs.Prelude.{ℕ, List, [], ◌++◌, codes}
use Rattle.std.specs.Fmt.{decimal}
use Rattle.bson_value.specs.Codes.{code_number}
use Rattle.bson_value.specs.declared.bad.BadBson.{BadBson}
use Rattle.bson_value.specs.declared.bad.BadWhy.{BadWhy}
use Rattle.bson_value.specs.declared.bad.BadWhy.TheVariants as B
use Rattle.bson_value.specs.declared.errors.Failure.{Failure}
use Rattle.bson_value.specs.declared.eval_code.EvalCode.{EvalCode}
use Rattle.bson_value.specs.declared.eval_code.EvalCode.TheVariants as C
use Rattle.chunk_map.specs.declared.errors.BadCluster.{BadCluster}
use Rattle.chunk_map.specs.declared.errors.ClusterWhy.{ClusterWhy}
use Rattle.chunk_map.specs.declared.errors.ClusterWhy.TheVariants as K
use Rattle.orphan_filter.specs.declared.errors.BadShard.{BadShard}
use Rattle.orphan_filter.specs.declared.errors.ShardWhy.{ShardWhy}
use Rattle.orphan_filter.specs.declared.errors.ShardWhy.TheVariants as R
use Rattle.stage_tree.specs.declared.command.BadCommand.{BadCommand}
use Rattle.stage_tree.specs.declared.command.CommandWhy.{CommandWhy}
use Rattle.stage_tree.specs.declared.command.CommandWhy.TheVariants as W
use Rattle.aggregate_command.specs.declared.status.Status.{Status}
use Rattle.aggregate_command.specs.declared.status.Status.TheVariants as S

-- what is wrong with bytes
abbrev pub bson_text : BadWhy → List ℕ
bson_text B.Truncated = codes "Truncated"
bson_text B.BadLength = codes "BadLength"
bson_text (B.TypeRefused kind) = codes "TypeRefused " ++ decimal kind
bson_text B.NotText = codes "NotText"
bson_text B.BadFlag = codes "BadFlag"
bson_text B.ArrayName = codes "ArrayName"
bson_text B.TwiceNamed = codes "TwiceNamed"
bson_text B.TooDeep = codes "TooDeep"
bson_text B.TooLong = codes "TooLong"

-- the same with its place
abbrev pub bytes_text : BadBson → List ℕ
bytes_text b = codes "Bytes at " ++ (decimal b.at ++ (codes ": " ++ bson_text b.why))

abbrev pub command_text : CommandWhy → List ℕ
command_text (W.Bytes b) = bytes_text b
command_text (W.Trailing at) = codes "Trailing " ++ decimal at
command_text W.Form = codes "Form"
command_text W.Stages = codes "Stages"
command_text W.StaticDepth = codes "StaticDepth"
command_text W.IntoInCluster = codes "IntoInCluster"

abbrev pub cluster_text : ClusterWhy → List ℕ
cluster_text (K.Bytes b) = bytes_text b
cluster_text (K.Trailing at) = codes "Trailing " ++ decimal at
cluster_text K.Form = codes "Form"
cluster_text K.TwiceNamed = codes "TwiceNamed"
cluster_text K.Range = codes "Range"
cluster_text K.Shard = codes "Shard"

abbrev pub shard_text : ShardWhy → List ℕ
shard_text (R.Bson why) = bson_text why
shard_text (R.ArrayInKey part) = codes "ArrayInKey " ++ decimal part

abbrev pub code_text : EvalCode → List ℕ
code_text C.WrongType = codes "WrongType"
code_text C.Overflow = codes "Overflow"
code_text C.ZeroDivisor = codes "ZeroDivisor"
code_text C.NotArray = codes "NotArray"
code_text C.BadCount = codes "BadCount"
code_text C.NoBranch = codes "NoBranch"
code_text C.DateRange = codes "DateRange"
code_text C.NotDocument = codes "NotDocument"
code_text C.BadName = codes "BadName"
code_text C.BadConversion = codes "BadConversion"
code_text C.RangeTooLong = codes "RangeTooLong"
code_text C.NestTooDeep = codes "NestTooDeep"
code_text C.ResultTooLong = codes "ResultTooLong"
code_text C.ResultTooDeep = codes "ResultTooDeep"
code_text C.MissingId = codes "MissingId"
code_text C.Matched = codes "Matched"
code_text C.NotMatched = codes "NotMatched"

abbrev pub command_line : BadCommand → List ℕ
command_line b = codes "error: command stage " ++ (decimal b.stage ++ (codes ": " ++ (command_text b.why ++ codes "\n")))

abbrev pub cluster_line : BadCluster → List ℕ
cluster_line b = codes "error: cluster collection " ++ (decimal b.collection ++ (codes " chunk " ++ (decimal b.chunk ++ (codes ": " ++ (cluster_text b.why ++ codes "\n")))))

abbrev pub shard_line : BadShard → List ℕ
shard_line b =
    codes "error: shard " ++ (b.collection ++ (codes "/" ++ (b.shard ++ (codes " record " ++ (decimal b.number
    ++ (codes " at " ++ (decimal b.at ++ (codes ": " ++ (shard_text b.why ++ codes "\n")))))))))

abbrev pub failure_line : Failure → List ℕ
failure_line f = codes "error: evaluation stage " ++ (decimal f.stage ++ (codes " code " ++ (decimal (code_number f.code) ++ (codes " " ++ (code_text f.code ++ codes "\n")))))

abbrev pub line_of : Status → List ℕ
line_of S.Done = []
line_of S.NotBuilt = codes "error: not built\n"
line_of S.Usage = codes "error: usage\n"
line_of (S.BadCommand b) = command_line b
line_of (S.BadCluster b) = cluster_line b
line_of (S.BadShard b) = shard_line b
line_of (S.NoFile name) = codes "error: no file " ++ (name ++ codes "\n")
line_of (S.FileTooLong name len) = codes "error: file too long " ++ (name ++ (codes " " ++ (decimal len ++ codes "\n")))
line_of (S.EvalError f) = failure_line f
line_of S.TooManyDocuments = codes "error: too many documents\n"
line_of S.ReadFault = codes "error: read fault\n"
line_of S.SpillFault = codes "error: spill fault\n"
line_of S.TargetFault = codes "error: target fault\n"
line_of S.WriteFault = codes "error: write fault\n"
line_of S.Damage = codes "error: damage\n"
line_of S.Memory = codes "error: memory\n"

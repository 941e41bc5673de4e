-- What the words and the files come to: the bytes to write, or the first refusal.
use Rattle.std.specs.Prelude.{ℕ, Bool, nat_le, if◌then◌else◌, List, [], length, Option, Some, None, Result, Ok, Err}
use Rattle.bson_value.specs.declared.errors.Failure.{Failure}
use Rattle.bson_codec.specs.Records.{Document, FileFault, bytes_fault, trailing, document_of}
use Rattle.chunk_map.specs.Table.{CollectionRow, Table}
use Rattle.chunk_map.specs.Form.{table}
use Rattle.chunk_map.specs.Owned.{Files, collection_named}
use Rattle.chunk_map.specs.declared.errors.BadCluster.{BadCluster}
use Rattle.mq_ports.specs.World.{Held, file_of}
use Rattle.orphan_filter.specs.Survey.{files_in, surveyed}
use Rattle.orphan_filter.specs.declared.errors.SurveyError.{SurveyError}
use Rattle.orphan_filter.specs.declared.errors.SurveyError.TheVariants as E
use Rattle.stage_tree.specs.declared.command.BadCommand.{BadCommand}
use Rattle.stage_tree.specs.declared.command.CommandWhy.{CommandWhy}
use Rattle.stage_tree.specs.declared.command.CommandWhy.TheVariants as W
use Rattle.stage_tree.specs.Outcome.{World}
use Rattle.stage_read.specs.Commands.{command_read}
use Rattle.stage_chain.specs.Chain.{is_built}
use Rattle.aggregate_command.specs.declared.status.Status.{Status}
use Rattle.aggregate_command.specs.declared.status.Status.TheVariants as S
use Rattle.aggregate_command.specs.declared.request.Request.{Request}
use Rattle.aggregate_command.specs.Status.{Step, ◌>>=◌}
use Rattle.aggregate_command.specs.Request.{requested}
use Rattle.aggregate_command.specs.Run.{Command, world_of, results}

-- ---- the cluster file and the command file

-- the most bytes that such a file has: 16 mebibytes
abbrev pub longest : ℕ
longest = 16777216

abbrev pub short_file : List ℕ → Option (List ℕ) → Step (List ℕ)
short_file name None = Err (S.NoFile name)
short_file name (Some bytes) = if nat_le (length bytes) longest then Ok bytes else Err (S.FileTooLong name (length bytes))

-- the bytes of a named file, which is held and not too long
abbrev pub file_in : Held → List ℕ → Step (List ℕ)
file_in held name = short_file name (file_of name held)

abbrev pub good_table : Result Table BadCluster → Step Table
good_table (Ok collections) = Ok collections
good_table (Err b) = Err (S.BadCluster b)

-- the routing table of a cluster file
abbrev pub table_at : Held → List ℕ → Step Table
table_at held name = file_in held name >>= λ bytes. good_table (table bytes)

abbrev pub fault_why : FileFault → CommandWhy
fault_why (bytes_fault b) = W.Bytes b
fault_why (trailing at) = W.Trailing at

abbrev pub good_document : Result Document FileFault → Step Document
good_document (Ok fields) = Ok fields
good_document (Err fault) = Err (S.BadCommand (record { stage = 0; why = fault_why fault }))

-- the document of a command file
abbrev pub document_at : Held → List ℕ → Step Document
document_at held name = file_in held name >>= λ bytes. good_document (document_of bytes)

abbrev pub good_command : Result Command BadCommand → Step Command
good_command (Ok c) = Ok c
good_command (Err b) = Err (S.BadCommand b)

-- a command whose stages are all built
abbrev pub built : Command → Step Command
built c = if is_built c.1 then Ok c else Err S.NotBuilt

-- the command of a command file
abbrev pub command_at : Held → List ℕ → Step Command
command_at held name = document_at held name >>= λ fields. good_command (command_read fields) >>= built

-- ---- the survey and the run

-- the status of what a survey found
abbrev pub survey_status : SurveyError → Status
survey_status (E.Bad b) = S.BadShard b
survey_status (E.NoFile name) = S.NoFile name
survey_status (E.FileTooLong name len) = S.FileTooLong name len
survey_status E.ReadFault = S.ReadFault
survey_status E.Damage = S.Damage
survey_status E.Memory = S.Memory

abbrev pub good_survey : Result (Unit {0}) SurveyError → Step (Unit {0})
good_survey (Ok x) = Ok tt
good_survey (Err e) = Err (survey_status e)

-- the files of the command's collection are good, if the cluster names it
abbrev pub surveyed_if : Files → Option CollectionRow → Step (Unit {0})
surveyed_if files None = Ok tt
surveyed_if files (Some c) = good_survey (surveyed files c)

-- the results, or that a stage fails
abbrev pub good_results : Result (List ℕ) Failure → Step (List ℕ)
good_results (Ok bytes) = Ok bytes
good_results (Err failure) = Err (S.EvalError failure)

-- a run writes the command's results, a check nothing
abbrev pub written_if : Bool → Command → World → Step (List ℕ)
written_if runs command world = if runs then good_results (results command world) else Ok []

-- the survey, and then the run
abbrev pub run_over : Files → Table → Bool → Command → Step (List ℕ)
run_over files collections runs command =
    surveyed_if files (collection_named command.0 collections) >>= λ good. written_if runs command (world_of files collections)

-- the command file, the survey and the run
abbrev pub run_command : Held → Request → Table → Step (List ℕ)
run_command held request collections = command_at held request.command >>= λ command. run_over (files_in held) collections request.runs command

-- cluster file, command file, survey and run
abbrev pub run_request : Held → Request → Step (List ℕ)
run_request held request = table_at held request.cluster >>= λ collections. run_command held request collections

-- words, cluster file, command file, survey and run, in this order
abbrev pub verdict : List (List ℕ) → Held → Step (List ℕ)
verdict words held = requested words >>= λ request. run_request held request

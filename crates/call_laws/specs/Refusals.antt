-- Why a call refuses its words or its files: the cause of each refusal, said of the words and of what the files spell.
use Rattle.std.specs.Prelude.{◌≡◌, ◌<◌, ℕ, true, false, List, ◌∷◌, ◌++◌, length, Some, Ok, Err, IsTrue}
use Rattle.bson_codec.specs.Records.{Document, FileFault, document_of}
use Rattle.chunk_map.specs.Table.{CollectionRow, Table}
use Rattle.chunk_map.specs.Owned.{collection_named}
use Rattle.chunk_map.specs.Spelled.{IsRefused}
use Rattle.chunk_map.specs.declared.errors.BadCluster.{BadCluster}
use Rattle.command_words.specs.declared.mode.Mode.{Mode}
use Rattle.command_words.specs.declared.mode.Mode.TheVariants.{Run, Explain, Check, Make, Work}
use Rattle.command_words.specs.declared.run_options.RunOptions.{RunOptions}
use Rattle.command_words.specs.Written.{IsMode}
use Rattle.mq_ports.specs.World.{Held, file_of}
use Rattle.orphan_filter.specs.Survey.{files_in, surveyed}
use Rattle.orphan_filter.specs.declared.errors.SurveyError.{SurveyError}
use Rattle.stage_tree.specs.Stage.{StageNode, Stages, stages_of}
use Rattle.stage_tree.specs.declared.command.BadCommand.{BadCommand}
use Rattle.stage_read.specs.Faults.{IsFirstFault}
use Rattle.stage_chain.specs.Chain.{is_reshape_stage, is_built}
use Rattle.aggregate_command.specs.declared.status.Status.{Status}
use Rattle.aggregate_command.specs.declared.status.Status.TheVariants as S
use Rattle.aggregate_command.specs.Meaning.{IsFile, IsClusterFile, IsCommandFile}
use Rattle.aggregate_command.specs.Run.{Command}
use Rattle.aggregate_command.specs.Verdict.{longest, fault_why}

-- ---- what the words ask for

-- no mode is written so
abbrev pub HaveNoReading : List (List ℕ) → Type 0
HaveNoReading words = (mode : Mode) → ¬ IsMode words mode

-- a run with statistics, or a mode that is neither a run nor a check
abbrev pub IsUnbuiltMode : Mode → Type 0
IsUnbuiltMode (Run cluster command options) = options.stats ≡ true
IsUnbuiltMode (Explain cluster command) = Unit {0}
IsUnbuiltMode (Check cluster command) = ⊥
IsUnbuiltMode (Make part number count) = Unit {0}
IsUnbuiltMode (Work number count options) = Unit {0}

-- the words ask for a mode that isn't built
pub record AskForUnbuilt (words : List (List ℕ)) : Type 0 where
  pub mode : Mode
  pub asked : IsMode words mode
  pub unbuilt : IsUnbuiltMode mode

-- the words ask for a run without statistics, or for a check, of the cluster file and the command file of these names
pub data AskFor (words : List (List ℕ)) (cluster command : List ℕ) : Type 0 where
  as_run : (options : RunOptions) → IsMode words (Run cluster command options) → options.stats ≡ false → AskFor words cluster command
  as_check : IsMode words (Check cluster command) → AskFor words cluster command

-- ---- how far the files are good

-- the words ask for a run or a check, and the cluster file spells a routing table
pub record HaveCluster (words : List (List ℕ)) (held : Held) : Type 0 where
  pub cluster_name : List ℕ
  pub command_name : List ℕ
  pub asked : AskFor words cluster_name command_name
  pub collections : Table
  pub spelled : IsClusterFile held cluster_name collections

-- and the command file spells a command
pub record HaveCommand (words : List (List ℕ)) (held : Held) : Type 0 where
  pub cluster : HaveCluster words held
  pub command : Command
  pub spelled : IsCommandFile held cluster.command_name command

-- and each of its stages is built, and the cluster names its collection
pub record HaveCollection (words : List (List ℕ)) (held : Held) : Type 0 where
  pub asked : HaveCommand words held
  pub built : IsTrue (is_built asked.command.1)
  pub collection : CollectionRow
  pub named : collection_named asked.command.0 asked.cluster.collections ≡ Some collection

-- ---- the refusals

-- one of these stages isn't built
pub record HasUnbuilt (stages : Stages) : Type 0 where
  pub front : List (StageNode × List ℕ)
  pub stage : StageNode × List ℕ
  pub back : List (StageNode × List ℕ)
  pub split : stages_of (front ++ stage ∷ back) ≡ stages
  pub unbuilt : is_reshape_stage stage.0 ≡ false

-- the command has a stage that isn't built
pub record HaveUnbuiltStage (words : List (List ℕ)) (held : Held) : Type 0 where
  pub asked : HaveCommand words held
  pub unbuilt : HasUnbuilt asked.command.1

-- the file of this name is the cluster file, or, behind a good cluster file, the command file
pub data AskForFile (words : List (List ℕ)) (held : Held) (name : List ℕ) : Type 0 where
  as_cluster : (command_name : List ℕ) → AskFor words name command_name → AskForFile words held name
  as_command : (found : HaveCluster words held) → found.command_name ≡ name → AskForFile words held name

-- a held file has so many bytes, which are too many for a cluster file and a command file
pub record IsLongFile (held : Held) (name : List ℕ) (len : ℕ) : Type 0 where
  pub bytes : List ℕ
  pub contents : file_of name held ≡ Some bytes
  pub count : length bytes ≡ len
  pub long : longest < len

-- the cluster file is refused so
pub record HaveBadCluster (words : List (List ℕ)) (held : Held) (bad : BadCluster) : Type 0 where
  pub cluster_name : List ℕ
  pub command_name : List ℕ
  pub asked : AskFor words cluster_name command_name
  pub bytes : List ℕ
  pub file : IsFile held cluster_name bytes
  pub refused : IsRefused bytes bad

-- these bytes are no document, for this reason; or the document that they are has this for its first fault
pub data IsNoCommand (bytes : List ℕ) (bad : BadCommand) : Type 0 where
  no_document : (fault : FileFault) → document_of bytes ≡ Err fault → bad.stage ≡ 0 → bad.why ≡ fault_why fault → IsNoCommand bytes bad
  no_form : (fields : Document) → document_of bytes ≡ Ok fields → IsFirstFault fields bad → IsNoCommand bytes bad

-- the command file, behind a good cluster file, is refused so
pub record HaveBadCommand (words : List (List ℕ)) (held : Held) (bad : BadCommand) : Type 0 where
  pub cluster : HaveCluster words held
  pub bytes : List ℕ
  pub file : IsFile held cluster.command_name bytes
  pub refused : IsNoCommand bytes bad

-- behind a good command, the survey of its collection's files refuses so
pub record HaveBadFiles (words : List (List ℕ)) (held : Held) (refusal : SurveyError) : Type 0 where
  pub found : HaveCollection words held
  pub refused : surveyed (files_in held) found.collection ≡ Err refusal

-- a refusal of the words, of a file, or, the words and the files being good, of a stage
abbrev pub IsRefusal : Status → Type 0
IsRefusal S.NotBuilt = Unit {0}
IsRefusal S.Usage = Unit {0}
IsRefusal (S.BadCommand bad) = Unit {0}
IsRefusal (S.BadCluster bad) = Unit {0}
IsRefusal (S.BadShard bad) = Unit {0}
IsRefusal (S.NoFile name) = Unit {0}
IsRefusal (S.FileTooLong name len) = Unit {0}
IsRefusal (S.EvalError failure) = Unit {0}
IsRefusal status = ⊥

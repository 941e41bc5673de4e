-- What is written, said of the words and the files themselves.
use Rattle.std.specs.Prelude.{◌≡◌, ◌≤◌, ◌⊎◌, ℕ, Bool, true, false, IsTrue, List, [], length, Option, Some, None, Ok, Err}
use Rattle.bson_value.specs.declared.errors.Failure.{Failure}
use Rattle.bson_codec.specs.Records.{Document, document_of}
use Rattle.chunk_map.specs.Table.{CollectionRow, Table}
use Rattle.chunk_map.specs.Spelled.{IsCluster}
use Rattle.chunk_map.specs.Owned.{collection_named}
use Rattle.command_words.specs.declared.mode.Mode.{Mode}
use Rattle.command_words.specs.declared.mode.Mode.TheVariants.{Run, Check}
use Rattle.command_words.specs.declared.run_options.RunOptions.{RunOptions}
use Rattle.command_words.specs.Words.{mode_of}
use Rattle.mq_ports.specs.World.{Held, file_of}
use Rattle.orphan_filter.specs.Survey.{files_in, surveyed}
use Rattle.aggregate_command.specs.declared.request.Request.{Request}
use Rattle.stage_tree.specs.Outcome.{World}
use Rattle.stage_read.specs.Written.{SpellsCommand}
use Rattle.stage_chain.specs.Chain.{is_built}
use Rattle.aggregate_command.specs.Run.{Command, world_of, results}
use Rattle.aggregate_command.specs.Verdict.{longest}

-- a run with options, but without statistics
pub record AsksForRun (mode : Option Mode) (request : Request) : Type 0 where
  pub options : RunOptions
  pub is : mode ≡ Some (Run request.cluster request.command options)
  pub no_stats : options.stats ≡ false
  pub runs : request.runs ≡ true

pub record AsksForCheck (mode : Option Mode) (request : Request) : Type 0 where
  pub is : mode ≡ Some (Check request.cluster request.command)
  pub runs : request.runs ≡ false

-- a mode that asks for this
abbrev pub AsksFor : Option Mode → Request → Type 0
AsksFor mode request = AsksForRun mode request ⊎ AsksForCheck mode request

-- a file of this name is held and isn't too long, and this is what it has
pub record IsFile (held : Held) (name bytes : List ℕ) : Type 0 where
  pub contents : file_of name held ≡ Some bytes
  pub short : length bytes ≤ longest

-- such a file is the document that spells this routing table
pub record IsClusterFile (held : Held) (name : List ℕ) (collections : Table) : Type 0 where
  pub bytes : List ℕ
  pub file : IsFile held name bytes
  pub form : IsCluster bytes collections

-- such a file is the document that spells this command
pub record IsCommandFile (held : Held) (name : List ℕ) (command : Command) : Type 0 where
  pub bytes : List ℕ
  pub file : IsFile held name bytes
  pub fields : Document
  pub document : document_of bytes ≡ Ok fields
  pub form : SpellsCommand fields command.0 command.1

-- a survey finds the files of the collection good. One that the cluster doesn't name has none
abbrev pub AreGood : Held → Option CollectionRow → Type 0
AreGood held None = Unit {0}
AreGood held (Some c) = surveyed (files_in held) c ≡ Ok tt

-- a run writes what the command gives, a check nothing
abbrev pub IsWritten : Bool → Command → World → List ℕ → Type 0
IsWritten true command world written = results command world ≡ Ok written
IsWritten false command world written = written ≡ []

-- the words ask for a run or a check; the files that they name spell a cluster and a command of built stages; and the files of the command's collection are good
pub record Comes (words : List (List ℕ)) (held : Held) : Type 0 where
  pub request : Request
  pub asked : AsksFor (mode_of words) request
  pub collections : Table
  pub cluster_file : IsClusterFile held request.cluster collections
  pub command : Command
  pub command_file : IsCommandFile held request.command command
  pub built : IsTrue (is_built command.1)
  pub good : AreGood held (collection_named command.0 collections)

-- and these bytes are what is written
pub record Writes (words : List (List ℕ)) (held : Held) (written : List ℕ) : Type 0 where
  pub come : Comes words held
  pub written_is : IsWritten come.request.runs come.command (world_of (files_in held) come.collections) written

-- and a stage of a run, or the check of its results, fails so
pub record Fails (words : List (List ℕ)) (held : Held) (failure : Failure) : Type 0 where
  pub come : Comes words held
  pub runs : come.request.runs ≡ true
  pub fails : results come.command (world_of (files_in held) come.collections) ≡ Err failure

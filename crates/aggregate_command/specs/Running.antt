-- A run: the stages, and the results that have come out of them, after each document that was pushed through.
use Rattle.std.specs.Prelude.{ℕ, List, [], ◌∷◌, Option, Some, None, Result, Err}
use Rattle.bson_value.specs.declared.errors.Failure.{Failure}
use Rattle.bson_codec.specs.Records.{Document}
use Rattle.stage_tree.specs.Stage.{Stages}
use Rattle.stage_chain.specs.Chain.{Step, started, pushed, finished, failure_of}
use Rattle.aggregate_command.specs.declared.run.Run.{Run}
use Rattle.aggregate_command.specs.Gathered.{no_results, with_results, gathered}

-- nothing was pushed yet
abbrev pub begun : Stages → Run
begun stages = record { chain = started stages; results = no_results }

-- what comes out of the stages is added to the results
abbrev pub with_given : Run → List Step × List Document → Run
with_given r given = record { chain = given.0; results = with_results r.results given.1 }

-- after one more document
abbrev pub with_document : Run → Document → Run
with_document r d = with_given r (pushed r.chain d)

-- after more documents, one after another
abbrev pub with_documents : Run → List Document → Run
with_documents r [] = r
with_documents r (d ∷ ds) = with_documents (with_document r d) ds

-- the failure of a stage, or what the check says of the results
abbrev pub unless_failed : Option Failure → Result (List ℕ) Failure → Result (List ℕ) Failure
unless_failed None gathered = gathered
unless_failed (Some failure) gathered = Err failure

abbrev pub come_to : ℕ → Run → Result (List ℕ) Failure
come_to n r = unless_failed (failure_of r.chain) (gathered n r.results)

-- what a run behind n stages comes to once no document is left
abbrev pub ended : ℕ → Run → Result (List ℕ) Failure
ended n r = come_to n (with_given r (finished r.chain))

-- What a run over all documents comes to is what the written stages and the check give.
use Rattle.std.proofs.Common.{◌≡◌, ℕ, suc, Bool, true, false, cond, List, [], ◌∷◌, ◌++◌, length, refl, sym, ap, ◌∙◌}
use Rattle.std.specs.Prelude.{Option, Some, None}
use Rattle.std.specs.Option.{option_map_or}
use Rattle.std.specs.Str.{bytes_eq}
use Rattle.bson_value.specs.Pairs.{find}
use Rattle.bson_value.specs.declared.errors.Failure.{Failure}
use Rattle.bson_codec.specs.Records.{Document}
use Rattle.chunk_map.specs.Table.{CollectionRow, Table}
use Rattle.chunk_map.specs.Owned.{Files, owned, owned_if, collection_named}
use Rattle.stage_tree.specs.Stage.{StageNode, Stages, stages_of}
use Rattle.stage_tree.specs.Outcome.{World, ◌>>=◌}
use Rattle.stage_tree.specs.Joining.{owned_in}
use Rattle.stage_tree.specs.Written.{written}
use Rattle.stage_tree.specs.Output.{output}
use Rattle.stage_chain.specs.Chain.{Step, ChainIsWritten, is_built, started, pushed, pushed_each, finished, failure_of, outcome, ran}
use Rattle.aggregate_command.specs.declared.results.Results.{Results}
use Rattle.aggregate_command.specs.declared.run.Run.{Run}
use Rattle.aggregate_command.specs.Gathered.{no_results, with_result, with_results, gathered}
use Rattle.aggregate_command.specs.Run.{Command, number_of, world_of, spelled, results}
use Rattle.aggregate_command.specs.Running.{begun, with_given, with_documents, unless_failed, come_to, ended}
use Rattle.aggregate_command.proofs.Added.{gathered_is}

with_results-append : (r : Results) (xs ys : List Document) → with_results r (xs ++ ys) ≡ with_results (with_results r xs) ys
with_results-append r [] ys = refl
with_results-append r (x ∷ xs) ys = with_results-append (with_result r x) xs ys

-- what came out piece by piece, at once
given_twice : (r : Run) (c : List Step) (cs : List Step × List Document) (xs : List Document) → with_given (with_given r (c, xs)) cs ≡ with_given r (cs.0, xs ++ cs.1)
given_twice r c cs xs = λ i. record { chain = cs.0; results = sym (with_results-append r.results xs cs.1) i }

with_documents_is : (r : Run) (ds : List Document) → with_documents r ds ≡ with_given r (pushed_each r.chain ds)
with_documents_is r [] = refl
with_documents_is r (d ∷ ds) =
    let p : List Step × List Document = pushed r.chain d in
    with_documents_is (with_given r p) ds ∙ given_twice r p.0 (pushed_each p.0 ds) p.1

by_failure : (n : ℕ) (o : Option Failure) (ds : List Document) → unless_failed o (gathered n (with_results no_results ds)) ≡ spelled (outcome o ds >>= output n)
by_failure n None ds = gathered_is n ds
by_failure n (Some f) ds = refl

ended_is : (n : ℕ) (ss : Stages) (ds : List Document) → ended n (with_documents (begun ss) ds) ≡ spelled (ran ss ds >>= output n)
ended_is n ss ds =
    let p : List Step × List Document = pushed_each (started ss) ds in
    let q : List Step × List Document = finished p.0 in
    ap (ended n) (with_documents_is (begun ss) ds) ∙ ap (come_to n) (given_twice (begun ss) p.0 q p.1) ∙ by_failure n (failure_of q.0) (p.1 ++ q.1)

-- ---- the owned documents of the command's collection

named : (b : Bool) (ds : List Document) (c : CollectionRow) (files : Files) (x : Option (List Document)) (y : Option CollectionRow) → option_map_or (λ es. es) x [] ≡ owned_if files y → option_map_or (λ es. es) (cond b (Some (owned files c)) x) [] ≡ owned_if files (cond b (Some c) y)
named true ds c files x y e = refl
named false ds c files x y e = e

pub owned_is : (files : Files) (collections : Table) (name : List ℕ) → owned_in name (world_of files collections) ≡ owned_if files (collection_named name collections)
owned_is files [] name = refl
owned_is files (c ∷ cs) name = named (bytes_eq c.name name) [] c files (find name (world_of files cs)) (collection_named name cs) (owned_is files cs name)

-- a run over them comes to the command's results
pub ran_over : ChainIsWritten → (files : Files) (collections : Table) (c : Command) → is_built c.1 ≡ true → ended (number_of c.1) (with_documents (begun c.1) (owned_if files (collection_named c.0 collections))) ≡ results c (world_of files collections)
ran_over law files collections c built =
    let w : World = world_of files collections in
    let n : ℕ = number_of c.1 in
    ended_is n c.1 (owned_if files (collection_named c.0 collections))
    ∙ ap (λ r. spelled (r >>= output n)) (law c.1 w (owned_if files (collection_named c.0 collections)) built)
    ∙ ap (λ ds. spelled (written c.1 w ds >>= output n)) (sym (owned_is files collections c.0))

pub number_is : (ss : List (StageNode × List ℕ)) → number_of (stages_of ss) ≡ length ss
number_is [] = refl
number_is (s ∷ ss) = ap suc (number_is ss)

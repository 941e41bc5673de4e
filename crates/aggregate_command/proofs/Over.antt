-- A run over the surveyed files of a command's collection.
use Rattle.std.proofs.Common.{◌≡◌, ◌∙◌, ℕ, Bool, true, List, length, Option, Some, None, Result, Ok, sym, ap, subst, IfSome}
use Rattle.chunk_map.specs.Table.{CollectionRow, Table}
use Rattle.chunk_map.specs.Owned.{owned_if, collection_named}
use Rattle.mq_ports.specs.World.{Held}
use Rattle.orphan_filter.specs.Survey.{files_in}
use Rattle.stage_tree.specs.Stage.{StageNode, Stages, stages_of}
use Rattle.stage_tree.specs.Outcome.{World}
use Rattle.stage_chain.specs.Chain.{ChainIsWritten, is_built}
use Rattle.aggregate_command.specs.declared.run.Run.{Run}
use Rattle.aggregate_command.specs.declared.status.Status.{Status}
use Rattle.aggregate_command.specs.Run.{Command, number_of, world_of}
use Rattle.aggregate_command.specs.Running.{begun, with_documents, ended}
use Rattle.aggregate_command.specs.Status.{Step, Answers, ◌>>=◌}
use Rattle.aggregate_command.specs.Verdict.{surveyed_if, good_results, written_if, run_over}
use Rattle.aggregate_command.proofs.Ended.{ran_over, number_is}

-- what a run over these documents comes to
abbrev pub run_comes_to : Held → Option CollectionRow → Stages → Step (List ℕ)
run_comes_to held row ss = good_results (ended (number_of ss) (with_documents (begun ss) (owned_if (files_in held) row)))

over_is : ChainIsWritten → (held : Held) (collections : Table) (c : Command) (runs : Bool) (row : Option CollectionRow) → row ≡ collection_named c.0 collections → surveyed_if (files_in held) row ≡ Ok tt → runs ≡ true → is_built c.1 ≡ true → run_over (files_in held) collections runs c ≡ run_comes_to held row c.1
over_is law held collections c runs row named good is built =
    let w : World = world_of (files_in held) collections in
    ap (λ s. s >>= λ g. written_if runs c w) (ap (surveyed_if (files_in held)) (sym named) ∙ good)
    ∙ ap (λ b. written_if b c w) is
    ∙ ap good_results (sym (ran_over law (files_in held) collections c built))
    ∙ ap (λ r. run_comes_to held r c.1) (sym named)

pub over_ran : ChainIsWritten → (h0 h1 : Option Held) (collections : Table) (c : Command) (runs : Bool) (row : Option CollectionRow) (answer : Result (List ℕ) Status) → h1 ≡ h0 → row ≡ collection_named c.0 collections → IfSome h0 (λ held. surveyed_if (files_in held) row ≡ Ok tt) → runs ≡ true → is_built c.1 ≡ true → IfSome h1 (λ held. Answers (λ bytes. bytes) answer (run_comes_to held row c.1)) → IfSome h0 (λ held. Answers (λ bytes. bytes) answer (run_over (files_in held) collections runs c))
over_ran law None h1 collections c runs row answer same named good is built answers = tt
over_ran law (Some held) h1 collections c runs row answer same named good is built answers =
    subst (λ (step : Step (List ℕ)). Answers (λ bytes. bytes) answer step) (sym (over_is law held collections c runs row named good is built))
    (subst (λ (h : Option Held). IfSome h (λ held. Answers (λ bytes. bytes) answer (run_comes_to held row c.1))) same answers)

-- the stages begin, the documents are pushed through them, and the run ends
pub ran_stages : (told : Option Held) (row : Option CollectionRow) (ss : List (StageNode × List ℕ)) (n : ℕ) (before after : Run) (answer : Result (List ℕ) Status) → n ≡ length ss → before ≡ begun (stages_of ss) → IfSome told (λ held. after ≡ with_documents before (owned_if (files_in held) row)) → Answers (λ bytes. bytes) answer (good_results (ended n after)) → IfSome told (λ held. Answers (λ bytes. bytes) answer (run_comes_to held row (stages_of ss)))
ran_stages None row ss n before after answer len begins runs ends = tt
ran_stages (Some held) row ss n before after answer len begins runs ends =
    let number : n ≡ number_of (stages_of ss) = len ∙ sym (number_is ss) in
    let run : after ≡ with_documents (begun (stages_of ss)) (owned_if (files_in held) row) = runs ∙ ap (λ r. with_documents r (owned_if (files_in held) row)) begins in
    subst (λ (step : Step (List ℕ)). Answers (λ bytes. bytes) answer step) (ap (λ m. good_results (ended m after)) number ∙ ap (λ r. good_results (ended (number_of (stages_of ss)) r)) run) ends

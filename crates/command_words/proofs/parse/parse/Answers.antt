use Rattle.std.proofs.lemmas.Result.{IfOk-weaker}
use Rattle.clap.specs.Words.{FailsBy}
use Rattle.clap.specs.Kinds.{Kinds}
use Rattle.command_words.proofs.Parsed.{rows_from, faults_from}
use Rattle.command_words.proofs.Found.{found_by, refused_by}
use Rattle.command_words.proofs.parse.parse.Goals as goal

pub returns-clause-found : goal.returns-clause-found
returns-clause-found c =
    let parse = c.try_get_matches_from in
    found_by _ c.requires parse.result (faults_from (λ (k : Kinds). FailsBy k parse.result) _ _ c.in_ok-command.ensures parse.ensures.kinds)
    (IfOk-weaker parse.result _ _ (λ m h. rows_from _ _ _ c.in_ok-command.ensures h) parse.ensures.matches)

pub returns-clause-refused : goal.returns-clause-refused
returns-clause-refused c =
    let parse = c.try_get_matches_from in
    refused_by _ c.requires parse.result (faults_from (λ (k : Kinds). FailsBy k parse.result) _ _ c.in_ok-command.ensures parse.ensures.kinds)
